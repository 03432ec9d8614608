-- FAMILIES: who is of one, by going up a link; a family's gain out of its children's; the families' gains together are the gains of all taken blocks; and a
-- family whose root is left out gains nothing. Of days whose links stand (`LinksStand`), under any set. Assumes nothing.
use Prim.Native.Nat.{ℕ, zero, suc, ◌+◌, ◌≤◌, ◌<◌}
use mathlib.Core.Bool.{Bool, true, false, not, ◌||◌}
use mathlib.Core.Path.{◌≡◌, refl, sym, ap, ◌∙◌}
use mathlib.Core.List.{List, [], ◌∷◌}
use native.Mathlib.Omega.{arith}
use native.Mathlib.Decide.{ℕ_discrete}
use lib.Dec.{eqb, leb}
use lib.ListN.{length, drop, get_or}
use borrow.Author.Tests.{eqb-true, eq-eqb, ne_eqb}
use Rattle.rules.specs.Orders.{Block, Link}
use Rattle.rules.specs.Hour.{when}
use Rattle.rules.specs.Day.{Day, keep, taken, over_blocks, set_prices, is_among, keeps_link, allowed}
use Rattle.rules.specs.Contender.{NumbersRise, EachLink, LinksStand}
use Rattle.rules.specs.OutcomeRules.{EachBlock}
use Rattle.rules.specs.Families.{parent_of, is_below, is_of_family, block_gain, family_gain, families_of, total_gain}
use Rattle.rules.proofs.Tests.{by-test, by_le, clash}
use Rattle.rules.proofs.CurveLaws.{when-zero}
use Rattle.rules.proofs.BoundsLaws.{each-taken}
use Rattle.rules.proofs.LinkLaws.{
  number_at,
  parent_place,
  StandsAt,
  numbers-above,
  among-stands,
  place-stands,
  every-each,
  parent-linked,
  parent-stands,
}

-- SUMS OVER BLOCKS
pub over-same : (f g : Block → ℕ) (l : List Block) → EachBlock (λ b. f b ≡ g b) l → over_blocks f l ≡ over_blocks g l
over-same f g [] each = refl
over-same f g (b ∷ l) each = omega (arith, each.0, over-same f g l each.1)

pub over_zero : (l : List Block) → over_blocks (λ b. 0) l ≡ 0
over_zero [] = refl
over_zero (b ∷ l) = omega (arith, over_zero l)

pub over_add : (f g : Block → ℕ) (l : List Block) → over_blocks (λ b. f b + g b) l ≡ over_blocks f l + over_blocks g l
over_add f g [] = refl
over_add f g (b ∷ l) = omega (arith, over_add f g l)

pub over-when : (t : Bool) (f : Block → ℕ) (l : List Block) → over_blocks (λ b. when t (f b)) l ≡ when t (over_blocks f l)
over-when true f l = refl
over-when false f l = over_zero l

-- a sum over two lists, in either order
pub over-both : (f : Block → Block → ℕ) (l m : List Block) → over_blocks (λ b. over_blocks (f b) m) l ≡ over_blocks (λ c. over_blocks (λ b. f b c) l) m
over-both f [] m = sym (over_zero m)
over-both f (b ∷ l) m = omega (arith, over-both f l m, over_add (f b) (λ c. over_blocks (λ b. f b c) l) m)

pub each-block : (P : Block → Type 0) (l : List Block) → ((b : Block) → P b) → EachBlock P l
each-block P [] f = tt
each-block P (b ∷ l) f = (f b, each-block P l f)

pub each-block-map : (P Q : Block → Type 0) (l : List Block) → ((b : Block) → P b → Q b) → EachBlock P l → EachBlock Q l
each-block-map P Q [] f each = tt
each-block-map P Q (b ∷ l) f each = (f b each.0, each-block-map P Q l f each.1)

-- each block's number is among those of its list
pub each-among : (l m : List Block) → ((n : ℕ) → is_among l n ≡ true → is_among m n ≡ true) → EachBlock (λ b. is_among m b.number ≡ true) l
each-among [] m f = tt
each-among (b ∷ l) m f =
    (f b.number (rw (eq-eqb b.number b.number refl)), each-among l m (λ n e. f n (rw e (or-true (eqb b.number n)))))
  where
    or-true : (t : Bool) → (t || true) ≡ true
    or-true true = refl
    or-true false = refl

-- a number of the block numbered so: it stands once
none_here : (last n : ℕ) (f : ℕ → ℕ) (l : List Block) → NumbersRise last l → n ≤ last → over_blocks (λ c. when (eqb n c.number) (f c.number)) l ≡ 0
none_here last n f [] rise k = refl
none_here last n f (b ∷ l) rise k =
    let first : last < b.number = rise.0 in
    rw (ne_eqb n b.number (omega arith)) (omega (arith, none_here b.number n f l rise.1 (omega arith)))

pub once-among : (last n : ℕ) (f : ℕ → ℕ) (l : List Block) → NumbersRise last l → is_among l n ≡ true →
    over_blocks (λ c. when (eqb n c.number) (f c.number)) l ≡ f n
once-among last n f [] rise e = clash e refl
once-among last n f (b ∷ l) rise e = elim (ℕ_discrete b.number n) [
  | yes y ↦ rw (eq-eqb n b.number (sym y), y, none_here b.number n f l rise.1 (omega arith)) (omega arith)
  | no y ↦ rw (ne_eqb n b.number (λ z. y (sym z))) (omega (arith, once-among b.number n f l rise.1 (rw (ne_eqb b.number n y) at e)))
]

-- and of blocks numbered above it there is none
behind-none : (g : Block → ℕ) (last n : ℕ) (l : List Block) (set : List Bool) → NumbersRise last l → n ≤ last →
    over_blocks (λ b. when (eqb b.number n) (g b)) (taken l set) ≡ 0
behind-none g last n [] set rise k = refl
behind-none g last n (b ∷ l) [] rise k = refl
behind-none g last n (b ∷ l) (true ∷ set) rise k =
    let first : last < b.number = rise.0 in
    rw (ne_eqb b.number n (omega arith)) (omega (arith, behind-none g b.number n l set rise.1 (omega arith)))
behind-none g last n (b ∷ l) (false ∷ set) rise k =
    let first : last < b.number = rise.0 in
    behind-none g b.number n l set rise.1 (omega arith)

-- UP A LINK. Each link is met once at most on the way up, for numbers fall: as many steps as there are links are enough
-- the links whose child is numbered n or lower
abbrev up_to : ℕ → List Link → ℕ
up_to n [] = 0
up_to n (link ∷ l) = when (leb link.child n) 1 + up_to n l

up-length : (n : ℕ) (l : List Link) → up_to n l ≤ length l
up-length n [] = omega arith
up-length n (link ∷ l) = by-test (λ t. when t 1 + up_to n l ≤ suc (length l)) (leb link.child n) (λ e. omega (arith, up-length n l)) (λ e. omega (arith, up-length n l))

one_more : (c m n : ℕ) → m ≤ n → when (leb c m) 1 ≤ when (leb c n) 1
one_more c m n k =
    by_le (λ t. when t 1 ≤ when (leb c n) 1) c m
    (λ a. by_le (λ t. 1 ≤ when t 1) c n (λ b. omega arith) (λ b. absurd (omega arith))) (λ a. omega arith)

up-order : (m n : ℕ) (l : List Link) → m ≤ n → up_to m l ≤ up_to n l
up-order m n [] k = omega arith
up-order m n (link ∷ l) k = omega (arith, one_more link.child m n k, up-order m n l k)

up-falls : (m n : ℕ) (l : List Link) → m < n → (parent_of l n ≡ 0 → ⊥) → up_to m l < up_to n l
unfolding parent_of
up-falls m n [] k some = absurd (some refl)
up-falls m n (link ∷ l) k some = elim (ℕ_discrete link.child n) [
  | yes y ↦ by_le (λ t. when t 1 + up_to m l < when (leb link.child n) 1 + up_to n l) link.child m (λ a. absurd (omega arith))
      (λ a. by_le (λ t. 0 + up_to m l < when t 1 + up_to n l) link.child n (λ b. omega (arith, up-order m n l (omega arith))) (λ b. absurd (omega arith)))
  | no y ↦ omega (arith, one_more link.child m n (omega arith), up-falls m n l k (rw (ne_eqb link.child n y) at some))
]

or-false : (t : Bool) → (t || false) ≡ t
or-false true = refl
or-false false = refl

module _ (links : List Link) (falling : EachLink (λ link. link.parent < link.child) links) where
  -- a parent's number is below its child's
  pub parent-falls : (n : ℕ) → (parent_of links n ≡ 0 → ⊥) → parent_of links n < n
  parent-falls n some = parent-linked _ links n falling some

  below-alone : (k root n : ℕ) → parent_of links n ≡ 0 → is_below k links root n ≡ eqb n root
  unfolding is_below
  below-alone zero root n e = refl
  below-alone (suc k) root n e = rw e (or-false (eqb n root))

  below-linked : (k root n : ℕ) → (parent_of links n ≡ 0 → ⊥) → is_below (suc k) links root n ≡ (eqb n root || is_below k links root (parent_of links n))
  unfolding is_below
  below-linked k root n some = rw (ne_eqb (parent_of links n) 0 some)

  below_stays : (k root n : ℕ) → up_to n links ≤ k → is_below (suc k) links root n ≡ is_below k links root n
  below_stays zero root n enough = elim (ℕ_discrete (parent_of links n) 0) [
    | yes y ↦ below-alone 1 root n y ∙ sym (below-alone 0 root n y)
    | no y ↦ absurd (omega (arith, up-falls (parent_of links n) n links (parent-falls n y) y))
  ]
  below_stays (suc k) root n enough = elim (ℕ_discrete (parent_of links n) 0) [
    | yes y ↦ below-alone (suc (suc k)) root n y ∙ sym (below-alone (suc k) root n y)
    | no y ↦ rw (
      below-linked (suc k) root n y,
      below-linked k root n y,
      below_stays k root (parent_of links n) (omega (arith, up-falls (parent_of links n) n links (parent-falls n y) y)),
    )
  ]

  -- a block without a parent is of its own family alone
  pub family-alone : (root n : ℕ) → parent_of links n ≡ 0 → is_of_family links root n ≡ eqb n root
  unfolding is_of_family
  family-alone root n e = below-alone (length links) root n e

  -- a block with a parent is of its own family, and of those that its parent is of
  pub family-linked : (root n : ℕ) → (parent_of links n ≡ 0 → ⊥) → is_of_family links root n ≡ (eqb n root || is_of_family links root (parent_of links n))
  unfolding is_of_family
  family-linked root n some = sym (below_stays (length links) root n (up-length n links)) ∙ below-linked (length links) root n some

  -- who is of a root's family is not numbered below the root
  family-above : (bound root n : ℕ) → n < bound → is_of_family links root n ≡ true → root ≤ n
  family-above zero root n k e = absurd (omega arith)
  family-above (suc bound) root n k e = elim (ℕ_discrete n root) [
    | yes y ↦ omega arith
    | no y ↦ elim (ℕ_discrete (parent_of links n) 0) [
      | yes z ↦ absurd (y (eqb-true n root (sym (family-alone root n z) ∙ e)))
      | no z ↦
          let up : is_of_family links root (parent_of links n) ≡ true = rw (ne_eqb n root y) at (sym (family-linked root n z) ∙ e) in
          omega (arith, parent-falls n z, family-above bound root (parent_of links n) (omega (arith, parent-falls n z)) up)
    ]
  ]

  -- so a block is the root, or its parent is of the family, and not both
  family-when : (root n x : ℕ) → (parent_of links n ≡ 0 → ⊥) →
      when (is_of_family links root n) x ≡ when (eqb n root) x + when (is_of_family links root (parent_of links n)) x
  family-when root n x some = rw (family-linked root n some) split
    where
      split : when (eqb n root || is_of_family links root (parent_of links n)) x ≡ when (eqb n root) x + when (is_of_family links root (parent_of links n)) x
      split = by-test (λ t. when (eqb n root || t) x ≡ when (eqb n root) x + when t x) (is_of_family links root (parent_of links n))
          (λ e. rw (ne_eqb n root (apart e)) (omega arith)) (λ e. rw (or-false (eqb n root)) (omega arith))
        where
          apart : is_of_family links root (parent_of links n) ≡ true → n ≡ root → ⊥
          apart e y = absurd (omega (arith, parent-falls n some, family-above n root (parent_of links n) (parent-falls n some) e))

-- THE FAMILIES OF A DAY
when-swap : (s t : Bool) (x : ℕ) → when s (when t x) ≡ when t (when s x)
when-swap true t x = refl
when-swap false t x = sym (when-zero t)

module _ (day : Day) (stand : LinksStand day) where
  abbrev up : ℕ → ℕ
  up n = parent_of day.links n

  abbrev Among : ℕ → Type 0
  Among n = is_among day.blocks n ≡ true

  parent-among : (n : ℕ) → (up n ≡ 0 → ⊥) → Among (up n)
  parent-among n some = parent-linked _ day.links n stand.parent_in some

  -- a number, so often as block n is of the family of a child of root
  abbrev below : (root n x : ℕ) → ℕ
  below root n x = over_blocks (λ c. when (eqb (up c.number) root) (when (is_of_family day.links c.number n) x)) day.blocks

  own-parent : (root n x : ℕ) → Among n →
      over_blocks (λ c. when (eqb (up c.number) root) (when (eqb n c.number) x)) day.blocks ≡ when (eqb (up n) root) x
  own-parent root n x among =
      over-same _ _ day.blocks (each-block _ day.blocks (λ c. when-swap (eqb (up c.number) root) (eqb n c.number) x))
      ∙ once-among 0 n (λ m. when (eqb (up m) root) x) day.blocks stand.numbers among

  below_none : (root n x : ℕ) → Among n → up n ≡ 0 → below root n x ≡ when (eqb (up n) root) x
  below_none root n x among e =
      over-same _ _ day.blocks (each-block _ day.blocks (λ c. rw (family-alone day.links stand.parent_below c.number n e)))
      ∙ own-parent root n x among

  below-some : (root n x : ℕ) → Among n → (up n ≡ 0 → ⊥) → below root n x ≡ when (eqb (up n) root) x + below root (up n) x
  below-some root n x among some =
      over-same _ _ day.blocks (each-block _ day.blocks split)
      ∙ over_add _ _ day.blocks ∙ ap (λ m. m + below root (up n) x) (own-parent root n x among)
    where
      with : (t : Bool) (a b c : ℕ) → a ≡ b + c → when t a ≡ when t b + when t c
      with true a b c e = e
      with false a b c e = refl

      split : (c : Block) → when (eqb (up c.number) root) (when (is_of_family day.links c.number n) x)
          ≡ when (eqb (up c.number) root) (when (eqb n c.number) x)
          + when (eqb (up c.number) root) (when (is_of_family day.links c.number (up n)) x)
      split c = with (eqb (up c.number) root) _ _ _ (family-when day.links stand.parent_below c.number n x some)

  -- each block is of the family of one block without a parent
  one-root : (bound n x : ℕ) → n < bound → Among n → below 0 n x ≡ x
  one-root zero n x k among = absurd (omega arith)
  one-root (suc bound) n x k among = elim (ℕ_discrete (up n) 0) [
    | yes y ↦ below_none 0 n x among y ∙ rw (eq-eqb (up n) 0 y)
    | no y ↦
        let falls = parent-falls day.links stand.parent_below n y in
        below-some 0 n x among y ∙ rw (ne_eqb (up n) 0 y) (omega (arith, one-root bound (up n) x (omega arith) (parent-among n y)))
  ]

  -- a block of a family is its root, or of the family of one child of the root
  one-child : (bound root n x : ℕ) → n < bound → 0 < root → Among n →
      when (is_of_family day.links root n) x ≡ when (eqb n root) x + below root n x
  one-child zero root n x k some among = absurd (omega arith)
  one-child (suc bound) root n x k some among = elim (ℕ_discrete (up n) 0) [
    | yes y ↦
        rw (family-alone day.links stand.parent_below root n y, below_none root n x among y, ne_eqb (up n) root (omega arith)) (omega arith)
    | no y ↦
        let falls = parent-falls day.links stand.parent_below n y in
        omega (
          arith,
          family-when day.links stand.parent_below root n x y,
          one-child bound root (up n) x (omega arith) some (parent-among n y),
          below-some root n x among y,
        )
  ]

  module _ (set : List Bool) where
    -- the blocks that are taken, each with its gain
    abbrev T : List Block
    T = taken day.blocks set

    abbrev gain_of : Block → ℕ
    gain_of = block_gain day.hours (set_prices day T)

    all_among : EachBlock (λ b. Among b.number) T
    all_among = each-taken _ day.blocks set (each-among day.blocks day.blocks (λ n e. e))

    -- the gains below the children of root are the gains of the children's families
    by-child : (root : ℕ) → over_blocks (λ b. below root b.number (gain_of b)) T
        ≡ over_blocks (λ c. when (eqb (up c.number) root) (family_gain day set c.number)) day.blocks
    unfolding family_gain
    by-child root =
        over-both (λ b c. when (eqb (up c.number) root) (when (is_of_family day.links c.number b.number) (gain_of b))) T day.blocks
        ∙ over-same _ _ day.blocks (each-block _ day.blocks (λ c.
        over-when (eqb (up c.number) root) (λ b. when (is_of_family day.links c.number b.number) (gain_of b)) T))

    -- A FAMILY'S GAIN: that of its root, where it is taken, and those of the families of the root's children
    pub family-gain : (root : ℕ) → 0 < root → family_gain day set root
        ≡ over_blocks (λ b. when (eqb b.number root) (block_gain day.hours (set_prices day (taken day.blocks set)) b)) (taken day.blocks set)
        + over_blocks (λ c. when (eqb (parent_of day.links c.number) root) (family_gain day set c.number)) day.blocks
    family-gain root some =
        unfold family_gain in (over-same _ _ T (each-block-map _ _ T
        (λ b among. one-child (suc b.number) root b.number (gain_of b) (omega arith) some among) all_among))
        ∙ over_add _ _ T ∙ ap (λ m. over_blocks (λ b. when (eqb b.number root) (gain_of b)) T + m) (by-child root)

    -- THE FAMILIES' GAINS TOGETHER are the gains of all taken blocks
    over-families : (l : List Block) →
        total_gain (families_of day set l) ≡ over_blocks (λ c. when (eqb (up c.number) 0) (family_gain day set c.number)) l
    unfolding families_of total_gain
    over-families [] = refl
    over-families (b ∷ l) =
        by-test (λ t. total_gain (keep t (record { root = b.number; gain = family_gain day set b.number }) (families_of day set l))
        ≡ when t (family_gain day set b.number) + over_blocks (λ c. when (eqb (up c.number) 0) (family_gain day set c.number)) l)
        (eqb (up b.number) 0) (λ e. omega (arith, over-families l)) (λ e. omega (arith, over-families l))

    pub families-together : total_gain (families_of day set day.blocks)
        ≡ over_blocks (block_gain day.hours (set_prices day (taken day.blocks set))) (taken day.blocks set)
    families-together =
        over-families day.blocks ∙ sym (by-child 0)
        ∙ over-same _ _ T (each-block-map _ _ T (λ b among. one-root (suc b.number) b.number (gain_of b) (omega arith) among) all_among)

    -- A ROOT LEFT OUT: nothing of its family is taken, and it gains nothing
    module _ (permitted : allowed day set ≡ true) (root : ℕ) (out : is_among (taken day.blocks set) root ≡ false) where
      parent-taken : (n : ℕ) → is_among T n ≡ true → (up n ≡ 0 → ⊥) → is_among T (up n) ≡ true
      unfolding allowed keeps_link
      parent-taken n is some =
          let kept = parent-linked _ day.links n (every-each _ day.links permitted) some in
          rw is at kept

      not-of-it : (bound n : ℕ) → n < bound → is_among T n ≡ true → is_of_family day.links root n ≡ false
      not-of-it zero n k is = absurd (omega arith)
      not-of-it (suc bound) n k is = elim (ℕ_discrete (up n) 0) [
        | yes y ↦ family-alone day.links stand.parent_below root n y ∙ ne_eqb n root apart
        | no y ↦
            let falls = parent-falls day.links stand.parent_below n y in
            family-linked day.links stand.parent_below root n y
            ∙ rw (ne_eqb n root apart) (not-of-it bound (up n) (omega arith) (parent-taken n is y))
      ]
        where
          apart : n ≡ root → ⊥
          apart e = clash (rw e at is) out

      pub none-taken : (n : ℕ) → is_among (taken day.blocks set) n ≡ true → is_of_family day.links root n ≡ false
      none-taken n is = not-of-it (suc n) n (omega arith) is

      pub left-out-gains-nothing : family_gain day set root ≡ 0
      unfolding family_gain
      left-out-gains-nothing =
          over-same _ (λ b. 0) T (each-block-map _ _ T nothing (each-among T T (λ n e. e))) ∙ over_zero T
        where
          nothing : (b : Block) → is_among T b.number ≡ true → when (is_of_family day.links root b.number) (gain_of b) ≡ 0
          nothing b is = rw (none-taken b.number is)

  -- BY POSITION, as the children are visited
  -- the block at j has the one at i as its parent: by their places, and by their numbers
  pub parent-test : (i j : ℕ) → i < length day.blocks →
      eqb (parent_place day j) (suc i) ≡ eqb (parent_of day.links (number_at day.blocks j)) (number_at day.blocks i)
  parent-test i j inside = elim (ℕ_discrete (parent_place day j) (suc i)) [
    | yes y ↦ eq-eqb _ _ y ∙ sym (eq-eqb _ _ (sym (parent-stands day stand j i y).1.there))
    | no y ↦ ne_eqb _ _ y ∙ sym (ne_eqb _ _ (λ e. y (placed e)))
  ]
    where
      placed : parent_of day.links (number_at day.blocks j) ≡ number_at day.blocks i → parent_place day j ≡ suc i
      placed e = unfold parent_place in (rw e (place-stands 0 0 day.blocks i stand.numbers inside ∙ omega arith))

  -- the block at j has no parent: by its place, and by its number
  pub root-test : (j : ℕ) → eqb (parent_place day j) 0 ≡ eqb (parent_of day.links (number_at day.blocks j)) 0
  root-test j = by_place (parent_place day j) refl
    where
      none : parent_place day j ≡ 0 → ((k : ℕ) × StandsAt day.blocks (up (number_at day.blocks j)) k) → ⊥
      none e (k, s) =
          let place : parent_place day j ≡ suc (0 + k) =
          unfold parent_place in (rw (← s.there) (place-stands 0 0 day.blocks k stand.numbers s.inside)) in
          absurd (omega arith)

      by_place : (m : ℕ) → parent_place day j ≡ m → eqb m 0 ≡ eqb (up (number_at day.blocks j)) 0
      by_place zero e = elim (ℕ_discrete (up (number_at day.blocks j)) 0) [
        | yes y ↦ sym (eq-eqb _ 0 y)
        | no y ↦ absurd (none e (among-stands day.blocks _ (parent-among (number_at day.blocks j) y)))
      ]
      by_place (suc k) e = ne_eqb (suc k) 0 (omega arith) ∙ sym (ne_eqb _ 0 (parent-stands day stand j k e).2)

  -- a parent's number is not that of its child, nor of a block behind it
  not-parent : (n m : ℕ) → 0 < n → n ≤ m → up n ≡ m → ⊥
  not-parent n m some le e = elim (ℕ_discrete (up n) 0) [
    | yes y ↦ absurd (omega arith)
    | no y ↦ absurd (omega (arith, parent-falls day.links stand.parent_below n y))
  ]

  -- a block's children stand behind it
  children-from : (f : Block → ℕ) (last : ℕ) (l : List Block) (j : ℕ) → NumbersRise last l → j < length l →
      over_blocks (λ c. when (eqb (up c.number) (number_at l j)) (f c)) l
      ≡ over_blocks (λ c. when (eqb (up c.number) (number_at l j)) (f c)) (drop (suc j) l)
  children-from f last [] j rise k = absurd (omega arith)
  children-from f last (b ∷ l) zero rise k = rw (ne_eqb (up b.number) b.number (not-parent b.number b.number (omega (arith, rise.0)) (omega arith))) (omega arith)
  children-from f last (b ∷ l) (suc j) rise k =
      let above = numbers-above b.number l j rise.1 (omega arith) in
      rw (ne_eqb (up b.number) (number_at l j) (not-parent b.number (number_at l j) (omega (arith, rise.0)) (omega arith)))
      (omega (arith, children-from f b.number l j rise.1 (omega arith)))

  -- a block's gain where it is taken, at its position
  own-gain : (g : Block → ℕ) (other : Block) (last : ℕ) (l : List Block) (set : List Bool) (j : ℕ) → NumbersRise last l → j < length l →
      over_blocks (λ b. when (eqb b.number (number_at l j)) (g b)) (taken l set) ≡ when (get_or set j false) (g (get_or l j other))
  own-gain g other last [] set j rise k = absurd (omega arith)
  own-gain g other last (b ∷ l) [] j rise k = refl
  own-gain g other last (b ∷ l) (true ∷ set) zero rise k = rw (eq-eqb b.number b.number refl) (omega (arith, behind-none g b.number b.number l set rise.1 (omega arith)))
  own-gain g other last (b ∷ l) (false ∷ set) zero rise k = behind-none g b.number b.number l set rise.1 (omega arith)
  own-gain g other last (b ∷ l) (true ∷ set) (suc j) rise k =
      let above = numbers-above b.number l j rise.1 (omega arith) in
      rw (ne_eqb b.number (number_at l j) (omega arith)) (omega (arith, own-gain g other b.number l set j rise.1 (omega arith)))
  own-gain g other last (b ∷ l) (false ∷ set) (suc j) rise k = own-gain g other b.number l set j rise.1 (omega arith)

  -- THE LAW OF THE VISIT: the gain of the family of the block at j is its own, where it is taken, and those of the families of the blocks behind it
  -- whose parent it is
  pub visit-law : (set : List Bool) (other : Block) (j : ℕ) → j < length day.blocks →
      family_gain day set (number_at day.blocks j)
      ≡ when (get_or set j false) (block_gain day.hours (set_prices day (taken day.blocks set)) (get_or day.blocks j other))
      + over_blocks (λ c. when (eqb (parent_of day.links c.number) (number_at day.blocks j)) (family_gain day set c.number))
      (drop (suc j) day.blocks)
  visit-law set other j inside =
      family-gain set (number_at day.blocks j) (numbers-above 0 day.blocks j stand.numbers inside)
      ∙ omega (
        arith,
        own-gain (gain_of set) other 0 day.blocks set j stand.numbers inside,
        children-from (λ c. family_gain day set c.number) 0 day.blocks j stand.numbers inside,
      )
