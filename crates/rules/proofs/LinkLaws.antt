-- LINKS BY POSITION: where a block's parent stands among the day's blocks, and that a set is allowed exactly when it is closed: it takes the block at a
-- position only together with the one at its parent's. Assumes nothing.
use Prim.Native.Nat.{ℕ, zero, suc, ◌+◌, ◌≤◌, ◌<◌}
use mathlib.Core.Bool.{Bool, true, false, cond, not, ◌||◌, false≢true}
use mathlib.Core.Path.{◌≡◌, refl, sym, subst, ◌∙◌}
use mathlib.Core.List.{List, [], ◌∷◌}
use native.Mathlib.Omega.{arith}
use native.Mathlib.Nat.{add-zero, lt_of_not-le}
use native.Mathlib.Decide.{dec_le, ℕ_discrete}
use lib.Dec.{eqb}
use lib.ListN.{length, get_or}
use borrow.Author.Tests.{eq-eqb, ne_eqb}
use Rattle.rules.specs.Orders.{Block, Link}
use Rattle.rules.specs.Day.{Day, taken, is_among, keeps_link, every_link, allowed}
use Rattle.rules.specs.Contender.{NumbersRise, ChildrenRise, EachLink, LinksStand}
use Rattle.rules.specs.Families.{parent_of}
use Rattle.rules.proofs.FamilyCases
use Rattle.rules.proofs.Tests.{by-test, both}

-- one more than the position of the block with a number, where the list's first block stands at i; 0 where there is none
abbrev pub place_from : ℕ → List Block → ℕ → ℕ
place_from i [] number = 0
place_from i (b ∷ l) number = cond (eqb b.number number) (suc i) (place_from (suc i) l number)

-- the number of the block at a position; 0 past the end
abbrev pub number_at : List Block → ℕ → ℕ
number_at [] j = 0
number_at (b ∷ l) zero = b.number
number_at (b ∷ l) (suc j) = number_at l j

-- for the block at position j, one more than the position of its parent; 0 where it has none
unfoldable pub parent_place : Day → ℕ → ℕ
parent_place day j = place_from 0 day.blocks (parent_of day.links (number_at day.blocks j))

-- a set is closed: it takes the block at j only together with its parent, at k
abbrev pub Closed : (parent : ℕ → ℕ) → List Bool → Type 0
Closed parent set = (j k : ℕ) → parent j ≡ suc k → get_or set j false ≡ true → get_or set k false ≡ true

-- such positions are those of the day's parents: they are positions of blocks, and allowed sets are the closed ones
pub record ClosedBy (day : Day) (parent : ℕ → ℕ) : Type 0 where
  pub inside : (j : ℕ) → j < length day.blocks → parent j ≤ length day.blocks
  pub closed : (set : List Bool) → length set ≡ length day.blocks → allowed day set ≡ true → Closed parent set
  pub allows : (set : List Bool) → length set ≡ length day.blocks → Closed parent set → allowed day set ≡ true

-- and a parent stands before its child
pub record Parents (day : Day) (parent : ℕ → ℕ) : Type 0 where
  pub links : ClosedBy day parent
  pub before : (j : ℕ) → parent j ≤ j

-- POSITIONS: numbers rise, so each block's number stands at its own position alone
-- a number stands at a position of a list
pub record StandsAt (l : List Block) (number position : ℕ) : Type 0 where
  pub inside : position < length l
  pub there : number_at l position ≡ number

-- numbers that rise above `last` lie above it
pub numbers-above : (last : ℕ) (l : List Block) (j : ℕ) → NumbersRise last l → j < length l → last < number_at l j
numbers-above last [] j rise k = absurd (omega arith)
numbers-above last (b ∷ l) zero rise k = rise.0
numbers-above last (b ∷ l) (suc j) rise k =
    let first : last < b.number = rise.0 in
    omega (arith, numbers-above b.number l j rise.1 (omega arith))

-- a lower number stands at a lower position
pub numbers-order : (last : ℕ) (l : List Block) (j k : ℕ) → NumbersRise last l → j < length l → k < length l → number_at l j < number_at l k → j < k
numbers-order last [] j k rise x y h = absurd (omega arith)
numbers-order last (b ∷ l) zero zero rise x y h = absurd (omega arith)
numbers-order last (b ∷ l) zero (suc k) rise x y h = omega arith
numbers-order last (b ∷ l) (suc j) zero rise x y h = absurd (omega (arith, numbers-above b.number l j rise.1 (omega arith)))
numbers-order last (b ∷ l) (suc j) (suc k) rise x y h =
    omega (arith, numbers-order b.number l j k rise.1 (omega arith) (omega arith) h)

-- and a higher one at a higher position
pub positions-order : (last : ℕ) (l : List Block) (j k : ℕ) → NumbersRise last l → j < k → k < length l → number_at l j < number_at l k
positions-order last [] j k rise x y = absurd (omega arith)
positions-order last (b ∷ l) j zero rise x y = absurd (omega arith)
positions-order last (b ∷ l) zero (suc k) rise x y = numbers-above b.number l k rise.1 (omega arith)
positions-order last (b ∷ l) (suc j) (suc k) rise x y = positions-order b.number l j k rise.1 (omega arith) (omega arith)

-- a number that is among the blocks stands at a position
pub among-stands : (l : List Block) (number : ℕ) → is_among l number ≡ true → (j : ℕ) × StandsAt l number j
among-stands [] number e = absurd (false≢true e)
among-stands (b ∷ l) number e = elim (ℕ_discrete b.number number) [
  | yes y ↦ (0, record { inside = omega arith; there = y })
  | no y ↦ next (among-stands l number (rw (ne_eqb b.number number y) at e))
]
  where
    next : ((j : ℕ) × StandsAt l number j) → (j : ℕ) × StandsAt (b ∷ l) number j
    next (j, s) = (suc j, record { inside = let i = s.inside in omega arith; there = s.there })

-- `place_from` finds it there
pub place-stands : (last i : ℕ) (l : List Block) (j : ℕ) → NumbersRise last l → j < length l → place_from i l (number_at l j) ≡ suc (i + j)
place-stands last i [] j rise k = absurd (omega arith)
place-stands last i (b ∷ l) zero rise k = rw (eq-eqb b.number b.number refl, add-zero i)
place-stands last i (b ∷ l) (suc j) rise k =
    let above : b.number < number_at l j = numbers-above b.number l j rise.1 (omega arith) in
    rw (ne_eqb b.number (number_at l j) (omega arith)) (place-stands b.number (suc i) l j rise.1 (omega arith) ∙ omega arith)

-- and what it finds stands there
pub place_found : (i : ℕ) (l : List Block) (number k : ℕ) → place_from i l number ≡ suc k → (j : ℕ) × (k ≡ i + j) × StandsAt l number j
place_found i [] number k e = absurd (omega arith)
place_found i (b ∷ l) number k e = elim (ℕ_discrete b.number number) [
  | yes y ↦ (0, let f : suc i ≡ suc k = rw (eq-eqb b.number number y) at e in omega arith, record { inside = omega arith; there = y })
  | no y ↦ next (place_found (suc i) l number k (rw (ne_eqb b.number number y) at e))
]
  where
    next : ((j : ℕ) × (k ≡ suc i + j) × StandsAt l number j) → (j : ℕ) × (k ≡ i + j) × StandsAt (b ∷ l) number j
    next (j, f, s) = (suc j, omega arith, record { inside = let x = s.inside in omega arith; there = s.there })

-- past the end there is none
number_past : (l : List Block) (j : ℕ) → length l ≤ j → number_at l j ≡ 0
number_past [] j k = refl
number_past (b ∷ l) zero k = absurd (omega arith)
number_past (b ∷ l) (suc j) k = number_past l j (omega arith)

-- TAKEN BLOCKS: a block is among them exactly when its own position says so
not-among : (last : ℕ) (l : List Block) (set : List Bool) (number : ℕ) → NumbersRise last l → number ≤ last → is_among (taken l set) number ≡ false
not-among last [] set number rise k = refl
not-among last (b ∷ l) [] number rise k = refl
not-among last (b ∷ l) (true ∷ set) number rise k =
    let first : last < b.number = rise.0 in
    rw (ne_eqb b.number number (omega arith)) (not-among b.number l set number rise.1 (omega arith))
not-among last (b ∷ l) (false ∷ set) number rise k =
    let first : last < b.number = rise.0 in
    not-among b.number l set number rise.1 (omega arith)

pub among-taken : (last : ℕ) (l : List Block) (set : List Bool) (j : ℕ) → NumbersRise last l → j < length l →
    is_among (taken l set) (number_at l j) ≡ get_or set j false
among-taken last [] set j rise k = absurd (omega arith)
among-taken last (b ∷ l) [] j rise k = refl
among-taken last (b ∷ l) (true ∷ set) zero rise k = rw (eq-eqb b.number b.number refl)
among-taken last (b ∷ l) (false ∷ set) zero rise k = not-among b.number l set b.number rise.1 (omega arith)
among-taken last (b ∷ l) (true ∷ set) (suc j) rise k =
    let above : b.number < number_at l j = numbers-above b.number l j rise.1 (omega arith) in
    rw (ne_eqb b.number (number_at l j) (omega arith)) (among-taken b.number l set j rise.1 (omega arith))
among-taken last (b ∷ l) (false ∷ set) (suc j) rise k = among-taken b.number l set j rise.1 (omega arith)

-- LINKS: a fact of each link, by the test of each
pub every-each : (t : Link → Bool) (l : List Link) → every_link t l ≡ true → EachLink (λ link. t link ≡ true) l
every-each t [] e = tt
every-each t (link ∷ l) e = let p = both (t link) (every_link t l) e in (p.0, every-each t l p.1)

pub each-every : (t : Link → Bool) (l : List Link) → EachLink (λ link. t link ≡ true) l → every_link t l ≡ true
each-every t [] each = refl
each-every t (link ∷ l) each = rw (each.0, each-every t l each.1)

pub each_map : (P Q : Link → Type 0) (l : List Link) → ((link : Link) → P link → Q link) → EachLink P l → EachLink Q l
each_map P Q [] f each = tt
each_map P Q (link ∷ l) f each = (f link each.0, each_map P Q l f each.1)

pub each_both : (P Q : Link → Type 0) (l : List Link) → EachLink P l → EachLink Q l → EachLink (λ link. P link × Q link) l
each_both P Q [] p q = tt
each_both P Q (link ∷ l) p q = ((p.0, q.0), each_both P Q l p.1 q.1)

-- what holds of each link holds of that which gives a block its parent
pub parent-linked : (P : Link → Type 0) (l : List Link) (number : ℕ) → EachLink P l → (parent_of l number ≡ 0 → ⊥) →
    P (record { child = number; parent = parent_of l number })
unfolding parent_of
parent-linked P [] number each some = absurd (some refl)
parent-linked P (link ∷ l) number each some = elim (ℕ_discrete link.child number) [
  | yes y ↦ rw (eq-eqb link.child number y) (subst (λ n. P (record { child = n; parent = link.parent })) y each.0)
  | no y ↦ rw (ne_eqb link.child number y) (parent-linked P l number each.1 (rw (ne_eqb link.child number y) at some))
]

-- children rise, so each link gives its child its parent
pub link-parents : (last : ℕ) (l : List Link) → ChildrenRise last l →
    EachLink (λ link. (last < link.child) × (parent_of l link.child ≡ link.parent)) l
unfolding parent_of
link-parents last [] rise = tt
link-parents last (first ∷ l) rise =
    ((rise.0, rw (eq-eqb first.child first.child refl)), each_map _ _ l later (link-parents first.child l rise.1))
  where
    later : (link : Link) → (first.child < link.child) × (parent_of l link.child ≡ link.parent) →
        (last < link.child) × (cond (eqb first.child link.child) first.parent (parent_of l link.child) ≡ link.parent)
    later link (k, e) = (let f : last < first.child = rise.0 in omega arith, rw (ne_eqb first.child link.child (omega arith)) e)

-- no link has the child 0
pub no-child : (last : ℕ) (l : List Link) → ChildrenRise last l → parent_of l 0 ≡ 0
unfolding parent_of
no-child last [] rise = refl
no-child last (link ∷ l) rise =
    let f : last < link.child = rise.0 in
    rw (ne_eqb link.child 0 (omega arith)) (no-child link.child l rise.1)

-- ALLOWED SETS ARE THE CLOSED ONES
module _ (day : Day) (stand : LinksStand day) where
  -- no block has number 0, so a parent's place is that of a number above 0
  no_zero : (k : ℕ) → place_from 0 day.blocks 0 ≡ suc k → ⊥
  no_zero k e = none (place_found 0 day.blocks 0 k e)
    where
      none : ((j : ℕ) × (k ≡ 0 + j) × StandsAt day.blocks 0 j) → ⊥
      none (j, f, s) = let a = numbers-above 0 day.blocks j stand.numbers s.inside in absurd (omega (arith, s.there))

  -- what `parent_place` finds is the block's parent
  pub parent-stands : (j k : ℕ) → parent_place day j ≡ suc k →
      (j < length day.blocks) × StandsAt day.blocks (parent_of day.links (number_at day.blocks j)) k
      × (parent_of day.links (number_at day.blocks j) ≡ 0 → ⊥)
  unfolding parent_place
  parent-stands j k e = (inside, found (place_found 0 day.blocks _ k e), λ z. no_zero k (rw z at e))
    where
      inside : j < length day.blocks
      inside = elim (dec_le (length day.blocks) j) [
        | yes past ↦ absurd (no_zero k (rw (number_past day.blocks j past, no-child 0 day.links stand.children) at e))
        | no less ↦ lt_of_not-le less
      ]

      found : ((m : ℕ) × (k ≡ 0 + m) × StandsAt day.blocks (parent_of day.links (number_at day.blocks j)) m) →
          StandsAt day.blocks (parent_of day.links (number_at day.blocks j)) k
      found (m, f, s) = let g : m ≡ k = omega arith in rw g at s

  -- a link between two positions is kept where the child's decision is false or the parent's true
  kept_at : (set : List Bool) (link : Link) (j k : ℕ) → StandsAt day.blocks link.child j → StandsAt day.blocks link.parent k →
      keeps_link (taken day.blocks set) link ≡ (not (get_or set j false) || get_or set k false)
  unfolding keeps_link
  kept_at set link j k c p =
      rw (
        ← c.there,
        ← p.there,
        among-taken 0 day.blocks set j stand.numbers c.inside,
        among-taken 0 day.blocks set k stand.numbers p.inside,
      )

  allowed-closed : (set : List Bool) → allowed day set ≡ true → Closed (parent_place day) set
  unfolding allowed
  allowed-closed set e j k link is = take (parent-stands j k link)
    where
      number : ℕ
      number = number_at day.blocks j

      take : (j < length day.blocks) × StandsAt day.blocks (parent_of day.links number) k × (parent_of day.links number ≡ 0 → ⊥) →
          get_or set k false ≡ true
      take (inside, p, some) =
          let kept = parent-linked _ day.links number (every-each _ day.links e) some in
          let at = kept_at set (record { child = number; parent = parent_of day.links number }) j k (record { inside = inside; there = refl }) p in
          rw is at (sym at ∙ kept)

  closed-allowed : (set : List Bool) → Closed (parent_place day) set → allowed day set ≡ true
  unfolding allowed
  closed-allowed set closed =
      each-every _ day.links (each_map _ _ day.links keeps
      (each_both _ _ day.links (each_both _ _ day.links stand.child_in stand.parent_in) (link-parents 0 day.links stand.children)))
    where
      at : (link : Link) → parent_of day.links link.child ≡ link.parent →
          ((j : ℕ) × StandsAt day.blocks link.child j) → ((k : ℕ) × StandsAt day.blocks link.parent k) →
          keeps_link (taken day.blocks set) link ≡ true
      at link e (j, c) (k, p) =
          let place : parent_place day j ≡ suc k =
          unfold parent_place in (rw (c.there, e, ← p.there) (place-stands 0 0 day.blocks k stand.numbers p.inside ∙ omega arith)) in
          kept_at set link j k c p ∙ by-test (λ t. (not t || get_or set k false) ≡ true) (get_or set j false) (λ is. closed j k place is) (λ out. refl)

      keeps : (link : Link) →
          ((is_among day.blocks link.child ≡ true) × (is_among day.blocks link.parent ≡ true))
          × ((0 < link.child) × (parent_of day.links link.child ≡ link.parent)) →
          keeps_link (taken day.blocks set) link ≡ true
      keeps link ((c, p), (k, e)) = at link e (among-stands day.blocks link.child c) (among-stands day.blocks link.parent p)

  parent-before : (j : ℕ) → parent_place day j ≤ j
  parent-before j = by_place (parent_place day j) refl
    where
      below : (k : ℕ) → (j < length day.blocks) × StandsAt day.blocks (parent_of day.links (number_at day.blocks j)) k
          × (parent_of day.links (number_at day.blocks j) ≡ 0 → ⊥) → suc k ≤ j
      below k (inside, p, some) =
          let less = parent-linked _ day.links (number_at day.blocks j) stand.parent_below some in
          omega (arith, numbers-order 0 day.blocks k j stand.numbers p.inside inside (rw p.there less))

      by_place : (m : ℕ) → parent_place day j ≡ m → m ≤ j
      by_place zero e = omega arith
      by_place (suc k) e = below k (parent-stands j k e)

  -- the positions of a day's parents
  pub parents-stand : Parents day (parent_place day)
  parents-stand = record {
    links = record {
      inside = λ j k. omega (arith, parent-before j);
      closed = λ set size. allowed-closed set;
      allows = λ set size. closed-allowed set;
    };
    before = parent-before;
  }
