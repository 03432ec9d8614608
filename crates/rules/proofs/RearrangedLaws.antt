-- THE DAY WITH ITS BLOCKS IN ANOTHER ORDER. Lawful sets, their welfare, their prices and what they trade are the same, each set with its decisions in that
-- order; so are parents and twins, at their new positions. The tie rule alone goes by number (`CostLaws`). Assumes nothing.
use Prim.Native.Nat.{ℕ, zero, suc, ◌+◌, ◌≤◌, ◌<◌}
use mathlib.Core.Bool.{Bool, true, false}
use mathlib.Core.Path.{◌≡◌, refl, sym, ap, subst, ◌∙◌}
use mathlib.Core.List.{List, [], ◌∷◌}
use native.Mathlib.Omega.{arith}
use native.Mathlib.Nat.{suc_inj}
use lib.Dec.{eqb, ltb}
use lib.ListN.{length, drop, get_or}
use lib.Seq.{drop-cons, ext_get_or}
use borrow.Author.Tests.{eq-eqb, ne_eqb, lt-ltb}
use Rattle.rules.specs.Orders.{buy, Block}
use Rattle.rules.specs.Hour.{when}
use Rattle.rules.specs.Day.{Day, taken, over_blocks, buys, set_prices, allowed, lawful, welfare, traded}
use Rattle.rules.specs.OutcomeRules.{EachBlock}
use Rattle.rules.proofs.Tests.{by-lt, by-eq}
use Rattle.rules.proofs.PlaceLaws.{hour_at}
use Rattle.rules.proofs.QuietHours.{Quiet}
use Rattle.rules.proofs.LinkLaws.{Closed, ClosedBy, Parents}
use Rattle.rules.proofs.TwinLaws.{Exchangeable, Ahead, InTurn, block-at, block_within, taken-within}
use Rattle.rules.proofs.SameBlocksLaws.{SameBlocks, with_blocks, allowed_same, lawful-same, welfare-same, set-prices-same, traded-same}

-- the block at a position; one of no meaning past the end
abbrev pub no_block : Block
no_block = record { number = 0; portfolio = 0; side = buy; price = 0; quantity = 0; runs = λ h. false }

abbrev pub block_at : List Block → ℕ → Block
block_at l j = get_or l j no_block

-- n of a list in an order: place j has what stands at order j, or `none` past the end
unfoldable pub list_by : {A : Type 0} (order : ℕ → ℕ) (n : ℕ) (none : A) → List A → List A
list_by order zero none l = []
list_by order (suc n) none l = get_or l (order 0) none ∷ list_by (λ j. order (suc j)) n none l

-- a set's decisions by another order: decision j of n is that of the block at order j
abbrev pub by_order : (order : ℕ → ℕ) (n : ℕ) → List Bool → List Bool
by_order order n set = list_by order n false set

-- blocks in an order: place j has the block at order j
abbrev pub blocks_by : (order : ℕ → ℕ) (n : ℕ) → List Block → List Block
blocks_by order n l = list_by order n no_block l

-- `order` is an order of n, and `place` says where each stands in it
pub record IsOrder (n : ℕ) (order place : ℕ → ℕ) : Type 0 where
  pub order_in : (j : ℕ) → j < n → order j < n
  pub place_in : (i : ℕ) → i < n → place i < n
  pub there : (j : ℕ) → j < n → place (order j) ≡ j
  pub back : (i : ℕ) → i < n → order (place i) ≡ i

-- the day with its blocks in that order, all else the same
abbrev pub rearranged : (order : ℕ → ℕ) → Day → Day
rearranged order day = with_blocks (blocks_by order (length day.blocks) day.blocks) day

-- a position given as one more, with 0 for none: where it stands in the order
abbrev pub placed_name : (place : ℕ → ℕ) → ℕ → ℕ
placed_name place zero = 0
placed_name place (suc k) = suc (place k)

-- the parents' positions in that order
abbrev pub placed_parent : (place order parent : ℕ → ℕ) → ℕ → ℕ
placed_parent place order parent j = placed_name place (parent (order j))

-- positions of the parents of n blocks; past them there is none
unfoldable pub parent_within : ℕ → (ℕ → ℕ) → ℕ → ℕ
parent_within n parent j = when (ltb j n) (parent j)

-- SUMS over the numbers below n
unfoldable pub sum_first : ℕ → (ℕ → ℕ) → ℕ
sum_first zero g = 0
sum_first (suc n) g = g 0 + sum_first n (λ j. g (suc j))

pub sum_same : (n : ℕ) (f g : ℕ → ℕ) → ((j : ℕ) → j < n → f j ≡ g j) → sum_first n f ≡ sum_first n g
unfolding sum_first
sum_same zero f g same = refl
sum_same (suc n) f g same = omega (arith, same 0 (omega arith), sum_same n (λ j. f (suc j)) (λ j. g (suc j)) (λ j k. same (suc j) (omega arith)))

sum-none : (n : ℕ) → sum_first n (λ j. 0) ≡ 0
unfolding sum_first
sum-none zero = refl
sum-none (suc n) = omega (arith, sum-none n)

sum-add : (n : ℕ) (f g : ℕ → ℕ) → sum_first n (λ j. f j + g j) ≡ sum_first n f + sum_first n g
unfolding sum_first
sum-add zero f g = omega arith
sum-add (suc n) f g = omega (arith, sum-add n (λ j. f (suc j)) (λ j. g (suc j)))

sum-swap : (n m : ℕ) (f : ℕ → ℕ → ℕ) → sum_first n (λ j. sum_first m (f j)) ≡ sum_first m (λ i. sum_first n (λ j. f j i))
unfolding sum_first
sum-swap zero m f = sym (sum-none m)
sum-swap (suc n) m f = omega (arith, sum-swap n m (λ j. f (suc j)), sum-add m (f 0) (λ i. sum_first n (λ j. f (suc j) i)))

-- two tests of equal numbers that have the same answer
test-same : (a b c d : ℕ) → (a ≡ b → c ≡ d) → (c ≡ d → a ≡ b) → eqb a b ≡ eqb c d
test-same a b c d to from = by-eq (λ t. t ≡ eqb c d) a b (λ e. sym (eq-eqb c d (to e))) (λ apart. sym (ne_eqb c d (λ e. apart (from e))))

-- a sum in which one number counts
sum-once : (n k : ℕ) (c : ℕ → ℕ) → k < n → sum_first n (λ i. when (eqb k i) (c i)) ≡ c k
unfolding sum_first
sum-once zero k c inside = absurd (omega arith)
sum-once (suc n) zero c inside =
    omega (arith, sum_same n (λ i. when (eqb 0 (suc i)) (c (suc i))) (λ i. 0) (λ i _. rw (ne_eqb 0 (suc i) (λ e. omega arith))), sum-none n)
sum-once (suc n) (suc k) c inside =
    let head : when (eqb (suc k) 0) (c 0) ≡ 0 = rw (ne_eqb (suc k) 0 (λ e. omega arith)) in
    let later = sum_same n (λ i. when (eqb (suc k) (suc i)) (c (suc i))) (λ i. when (eqb k i) (c (suc i)))
    (λ i _. rw (test-same (suc k) (suc i) k i suc_inj (ap suc))) in
    omega (arith, sum-once n k (λ i. c (suc i)) (omega arith))

-- THE LAW OF ORDERS: a sum in an order is the sum
pub sum-by-order : (n : ℕ) (order place : ℕ → ℕ) → IsOrder n order place → (g : ℕ → ℕ) → sum_first n (λ j. g (order j)) ≡ sum_first n g
sum-by-order n order place is g =
    sum_same n (λ j. g (order j)) (λ j. sum_first n (λ i. when (eqb (order j) i) (g i))) (λ j k. sym (sum-once n (order j) g (is.order_in j k)))
    ∙ sum-swap n n (λ j i. when (eqb (order j) i) (g i))
    ∙ sum_same n (λ i. sum_first n (λ j. when (eqb (order j) i) (g i))) g (λ i k.
    sum_same n (λ j. when (eqb (order j) i) (g i)) (λ j. when (eqb (place i) j) (g i)) (λ j m. rw (met i j k m))
    ∙ sum-once n (place i) (λ j. g i) (is.place_in i k))
  where
    met : (i j : ℕ) → i < n → j < n → eqb (order j) i ≡ eqb (place i) j
    met i j k m = test-same (order j) i (place i) j (λ e. ap place (sym e) ∙ is.there j m) (λ e. ap order (sym e) ∙ is.back i k)

-- LISTS IN AN ORDER
module _ {A : Type 0} (none : A) where
  pub length-by : (order : ℕ → ℕ) (n : ℕ) (l : List A) → length (list_by order n none l) ≡ n
  unfolding list_by
  length-by order zero l = refl
  length-by order (suc n) l = ap suc (length-by (λ j. order (suc j)) n l)

  -- place j has what stands at order j
  pub at-by : (order : ℕ → ℕ) (n : ℕ) (l : List A) (j : ℕ) → j < n → get_or (list_by order n none l) j none ≡ get_or l (order j) none
  unfolding list_by
  at-by order zero l j k = absurd (omega arith)
  at-by order (suc n) l zero k = refl
  at-by order (suc n) l (suc j) k = at-by (λ j. order (suc j)) n l j (omega arith)

  -- put back, it is the list itself
  pub by-back : (n : ℕ) (order place : ℕ → ℕ) → IsOrder n order place → (l : List A) → length l ≡ n →
      list_by place n none (list_by order n none l) ≡ l
  by-back n order place is l size =
      ext_get_or none (list_by place n none (list_by order n none l)) l (length-by place n (list_by order n none l) ∙ sym size) (λ i k.
      let inside : i < n = omega (arith, length-by place n (list_by order n none l)) in
      at-by place n (list_by order n none l) i inside ∙ at-by order n l (place i) (is.place_in i inside) ∙ rw (is.back i inside))

-- an order and its places, the other way round
pub order-back : (n : ℕ) (order place : ℕ → ℕ) → IsOrder n order place → IsOrder n place order
order-back n order place is = record { order_in = is.place_in; place_in = is.order_in; there = is.back; back = is.there }

-- a set's decisions put in an order and back again, and the other way round
module _ (n : ℕ) (order place : ℕ → ℕ) (is : IsOrder n order place) (set : List Bool) (size : length set ≡ n) where
  pub by-order-back : by_order place n (by_order order n set) ≡ set
  by-order-back = by-back false n order place is set size

  pub by-place-back : by_order order n (by_order place n set) ≡ set
  by-place-back = by-back false n place order (order-back n order place is) set size

-- SUMS over blocks by their positions
blocks-sum : (f : Block → ℕ) (l : List Block) → over_blocks f l ≡ sum_first (length l) (λ i. f (block_at l i))
unfolding sum_first
blocks-sum f [] = refl
blocks-sum f (b ∷ l) = omega (arith, blocks-sum f l)

taken-sum : (f : Block → ℕ) (l : List Block) (set : List Bool) →
    over_blocks f (taken l set) ≡ sum_first (length l) (λ i. when (get_or set i false) (f (block_at l i)))
unfolding sum_first
taken-sum f [] set = refl
taken-sum f (b ∷ l) [] = omega (arith, sum-none (length l))
taken-sum f (b ∷ l) (true ∷ set) = omega (arith, taken-sum f l set)
taken-sum f (b ∷ l) (false ∷ set) = omega (arith, taken-sum f l set)

-- THE SAME BLOCKS in an order, all of them and those that are taken
module _ (l : List Block) (order place : ℕ → ℕ) (is : IsOrder (length l) order place) where
  abbrev N : ℕ
  N = length l

  pub same_blocks : SameBlocks (blocks_by order (length l) l) l
  same_blocks f =
      blocks-sum f (blocks_by order N l)
      ∙ ap (λ n. sum_first n (λ j. f (block_at (blocks_by order N l) j))) (length-by no_block order N l)
      ∙ sum_same N (λ j. f (block_at (blocks_by order N l) j)) (λ j. f (block_at l (order j))) (λ j k. ap f (at-by no_block order N l j k))
      ∙ sum-by-order N order place is (λ i. f (block_at l i))
      ∙ sym (blocks-sum f l)

  pub same_taken : (set : List Bool) → SameBlocks (taken (blocks_by order (length l) l) (by_order order (length l) set)) (taken l set)
  same_taken set f =
      taken-sum f (blocks_by order N l) (by_order order N set)
      ∙ ap (λ n. sum_first n (λ j. when (get_or (by_order order N set) j false) (f (block_at (blocks_by order N l) j)))) (length-by no_block order N l)
      ∙ sum_same N (λ j. when (get_or (by_order order N set) j false) (f (block_at (blocks_by order N l) j)))
      (λ j. when (get_or set (order j) false) (f (block_at l (order j)))) (λ j k. rw (at-by no_block order N l j k, at-by false order N set j k))
      ∙ sum-by-order N order place is (λ i. when (get_or set i false) (f (block_at l i)))
      ∙ sym (taken-sum f l set)

-- a fact of each block, by position and in another order
pub each_at : (P : Block → Type 0) (l : List Block) → EachBlock P l → (j : ℕ) → j < length l → P (block_at l j)
each_at P [] each j k = absurd (omega arith)
each_at P (b ∷ l) each zero k = each.0
each_at P (b ∷ l) each (suc j) k = each_at P l each.1 j (omega arith)

pub each-by : (P : Block → Type 0) (l : List Block) (order : ℕ → ℕ) (n : ℕ) → ((j : ℕ) → j < n → P (block_at l (order j))) → EachBlock P (blocks_by order n l)
unfolding list_by
each-by P l order zero each = tt
each-by P l order (suc n) each = (each 0 (omega arith), each-by P l (λ j. order (suc j)) n (λ j k. each (suc j) (omega arith)))

-- PARENTS BEFORE CHILDREN: it is enough that each block's parent stands before it
pub parent-within : (n : ℕ) (parent : ℕ → ℕ) (j : ℕ) → j < n → parent_within n parent j ≡ parent j
unfolding parent_within
parent-within n parent j k = rw (lt-ltb j n k)

before-all : (n : ℕ) (parent : ℕ → ℕ) → ((j : ℕ) → j < n → parent j ≤ j) → (j : ℕ) → parent_within n parent j ≤ j
unfolding parent_within
before-all n parent before j = by-lt (λ t. when t (parent j) ≤ j) j n (λ k. before j k) (λ k. omega arith)

pub parents-within : (day : Day) (parent : ℕ → ℕ) → ClosedBy day parent → ((j : ℕ) → j < length day.blocks → parent j ≤ j) →
    Parents day (parent_within (length day.blocks) parent)
parents-within day parent links before = record {
  links = record {
    inside = λ j k. rw (parent-within n parent j k) (links.inside j k);
    closed = λ set size e j k name is. links.closed set size e j k (sym (known set size j is) ∙ name) is;
    allows = λ set size closed. links.allows set size (λ j k name is. closed j k (known set size j is ∙ name) is);
  };
  before = before-all n parent before;
}
  where
    n : ℕ
    n = length day.blocks

    -- a taken block is one of the n
    known : (set : List Bool) → length set ≡ n → (j : ℕ) → get_or set j false ≡ true → parent_within n parent j ≡ parent j
    known set size j is = parent-within n parent j (omega (arith, size, taken-within set j is))

-- THE DAY REARRANGED
module _ (order place : ℕ → ℕ) (day : Day) (is : IsOrder (length day.blocks) order place) where
  abbrev n : ℕ
  n = length day.blocks

  abbrev D : Day
  D = rearranged order day

  -- its blocks: as many; at place j the block at order j; and every sum over them is the same
  pub size-rearranged : length (rearranged order day).blocks ≡ length day.blocks
  size-rearranged = length-by no_block order n day.blocks

  pub block-rearranged : (j : ℕ) → j < length day.blocks → block_at (rearranged order day).blocks j ≡ block_at day.blocks (order j)
  block-rearranged j k = at-by no_block order n day.blocks j k

  pub next-rearranged : (j : ℕ) → j < length day.blocks →
      drop j (rearranged order day).blocks ≡ block_at day.blocks (order j) ∷ drop (suc j) (rearranged order day).blocks
  next-rearranged j k = drop-cons D.blocks j no_block (omega (arith, size-rearranged)) ∙ rw (block-rearranged j k)

  pub sum-rearranged : (f : Block → ℕ) → over_blocks f (rearranged order day).blocks ≡ over_blocks f day.blocks
  sum-rearranged f = same_blocks day.blocks order place is f

  -- so the hour at a place is the same
  pub hour-rearranged : (h i : ℕ) → hour_at (rearranged order day) h i ≡ hour_at day h i
  hour-rearranged h i = rw (sum-rearranged (buys h))

  pub quiet-rearranged : Quiet day → Quiet (rearranged order day)
  quiet-rearranged quiet = record {
    steps = quiet.steps;
    blocks = each-by _ day.blocks order n (λ j k. each_at _ day.blocks quiet.blocks (order j) (is.order_in j k));
  }

  -- put back, it is the day itself
  pub rearranged-back : rearranged place (rearranged order day) ≡ day
  rearranged-back =
      ap (λ blocks. with_blocks blocks day)
      (rw size-rearranged (by-back no_block n order place is day.blocks refl))

  pub order-back-rearranged : IsOrder (length (rearranged order day).blocks) place order
  order-back-rearranged = rw size-rearranged (order-back n order place is)

  -- SETS
  module _ (set : List Bool) where
    same_set : SameBlocks (taken D.blocks (by_order order n set)) (taken day.blocks set)
    same_set = same_taken day.blocks order place is set

    pub allowed-rearranged : allowed (rearranged order day) (by_order order (length day.blocks) set) ≡ allowed day set
    allowed-rearranged = allowed_same day D.blocks (by_order order n set) set same_set

    pub lawful-rearranged : lawful (rearranged order day) (by_order order (length day.blocks) set) ≡ lawful day set
    lawful-rearranged = lawful-same day D.blocks (by_order order n set) set same_set

    pub welfare-rearranged : welfare (rearranged order day) (by_order order (length day.blocks) set) ≡ welfare day set
    welfare-rearranged = welfare-same day D.blocks (by_order order n set) set same_set

    pub prices-rearranged : (h : ℕ) →
        set_prices (rearranged order day) (taken (rearranged order day).blocks (by_order order (length day.blocks) set)) h
        ≡ set_prices day (taken day.blocks set) h
    prices-rearranged = set-prices-same (taken D.blocks (by_order order n set)) (taken day.blocks set) same_set day D.blocks

    pub traded-rearranged : (h : ℕ) →
        traded (rearranged order day) (taken (rearranged order day).blocks (by_order order (length day.blocks) set)) h
        ≡ traded day (taken day.blocks set) h
    traded-rearranged = traded-same (taken D.blocks (by_order order n set)) (taken day.blocks set) same_set day D.blocks

  -- PARENTS at their places
  -- what a parent's name says in the order
  named : (name k : ℕ) → placed_name place name ≡ suc k → (m : ℕ) × (name ≡ suc m) × (place m ≡ k)
  named zero k e = absurd (omega arith)
  named (suc m) k e = (m, refl, suc_inj e)

  module _ (parent : ℕ → ℕ) (links : ClosedBy day parent) where
    -- a position that is named as a parent is that of a block
    parent_in : (j k : ℕ) → j < n → parent j ≡ suc k → k < n
    parent_in j k inside e = omega (arith, links.inside j inside)

    -- a set of the day rearranged, put back, has the decision of each block
    module _ (set : List Bool) (size : length set ≡ n) where
      abbrev set₀ : List Bool
      set₀ = by_order place n set

      decided : (i : ℕ) → i < n → get_or set₀ i false ≡ get_or set (place i) false
      decided i k = at-by false place n set i k

      same-allowed : allowed D set ≡ allowed day set₀
      same-allowed = rw (by-place-back n order place is set size) at (allowed-rearranged set₀)

      closed-there : Closed parent set₀ → Closed (placed_parent place order parent) set
      closed-there closed j k e taken = at-parent (named (parent (order j)) k e)
        where
          inside : j < n
          inside = omega (arith, size, taken-within set j taken)

          at-parent : ((m : ℕ) × (parent (order j) ≡ suc m) × (place m ≡ k)) → get_or set k false ≡ true
          at-parent (m, f, g) =
              let here : get_or set₀ (order j) false ≡ true = decided (order j) (is.order_in j inside) ∙ rw (is.there j inside) taken in
              rw (← g) (sym (decided m (parent_in (order j) m (is.order_in j inside) f)) ∙ closed (order j) m f here)

      closed-back : Closed (placed_parent place order parent) set → Closed parent set₀
      closed-back closed j k e taken =
          let inside : j < n = omega (arith, length-by false place n set, taken-within set₀ j taken) in
          decided k (parent_in j k inside e)
          ∙ closed (place j) (place k) (rw (is.back j inside, e) refl) (sym (decided j inside) ∙ taken)

    pub closed-rearranged : ClosedBy (rearranged order day) (placed_parent place order parent)
    closed-rearranged = record {
      inside = λ j k. rw size-rearranged (bounded (parent (order j)) (links.inside (order j) (is.order_in j (omega (arith, size-rearranged)))));
      closed = λ set size e.
          let fits : length set ≡ n = size ∙ size-rearranged in
          closed-there set fits (links.closed (by_order place n set) (length-by false place n set) (sym (same-allowed set fits) ∙ e));
      allows = λ set size closed.
          let fits : length set ≡ n = size ∙ size-rearranged in
          same-allowed set fits ∙ links.allows (by_order place n set) (length-by false place n set) (closed-back set fits closed);
    }
      where
        bounded : (name : ℕ) → name ≤ n → placed_name place name ≤ n
        bounded zero k = omega arith
        bounded (suc m) k = omega (arith, is.place_in m (omega arith))

  -- TWINS at their places
  exchangeable-at : (a b : ℕ) → a < n → b < n → Exchangeable day a b → Exchangeable D (place a) (place b)
  exchangeable-at a b ka kb links = record {
    parent = placed_parent place order links.parent;
    parents = closed-rearranged links.parent links.parents;
    none_or_same = λ k e. same k (named (links.parent a) k (rw (is.back a ka) at e));
    nobodys = λ j k e. nobody j (omega (arith, size-rearranged)) (named (links.parent (order j)) (place b) e);
  }
    where
      same : (k : ℕ) → ((m : ℕ) × (links.parent a ≡ suc m) × (place m ≡ k)) → placed_name place (links.parent (order (place b))) ≡ suc k
      same k (m, f, g) = rw (is.back b kb, links.none_or_same m f, g) refl

      nobody : (j : ℕ) → j < n → ((m : ℕ) × (links.parent (order j) ≡ suc m) × (place m ≡ place b)) → ⊥
      nobody j k (m, f, g) =
          let inside : m < n = parent_in links.parent links.parents (order j) m (is.order_in j k) f in
          let met : m ≡ b = sym (is.back m inside) ∙ ap order g ∙ is.back b kb in
          links.nobodys (order j) (is.order_in j k) (f ∙ ap suc met)

  module _ (p : ℕ → ℕ) where
    -- what stands at a position stands at its place
    stands_at : (a : ℕ) (b : Block) → drop a day.blocks ≡ b ∷ drop (suc a) day.blocks →
        drop (place a) D.blocks ≡ b ∷ drop (suc (place a)) D.blocks
    stands_at a b at =
        let k = block_within day.blocks a _ _ at in
        rw (is.back a k, block-at day.blocks a _ _ no_block at) at (next-rearranged (place a) (is.place_in a k))

    pub ahead-placed : (a b : ℕ) → Ahead day p a b → Ahead (rearranged order day) p (place a) (place b)
    ahead-placed a b ahead = record {
      first = ahead.first;
      second = ahead.second;
      first_at = stands_at a ahead.first ahead.first_at;
      second_at = stands_at b ahead.second ahead.second_at;
      same_side = ahead.same_side;
      same_hours = ahead.same_hours;
      same_quantity = ahead.same_quantity;
      limits = ahead.limits;
      loses_no_more = ahead.loses_no_more;
      loses_less = ahead.loses_less;
      unlinked = exchangeable-at a b (block_within day.blocks a _ _ ahead.first_at) (block_within day.blocks b _ _ ahead.second_at)
          ahead.unlinked;
    }

-- and the other way round: the day is the rearranged one, rearranged
module _ (order place : ℕ → ℕ) (day : Day) (is : IsOrder (length day.blocks) order place) (p : ℕ → ℕ) where
  pub ahead-rearranged : (a b : ℕ) → Ahead (rearranged order day) p a b → Ahead day p (order a) (order b)
  ahead-rearranged a b ahead =
      subst (λ d. Ahead d p (order a) (order b)) (rearranged-back order place day is)
      (ahead-placed place order (rearranged order day) (order-back-rearranged order place day is) p a b ahead)

  -- SETS IN TURN stay in turn
  pub in-turn-rearranged : (set : List Bool) → InTurn day p set → InTurn (rearranged order day) p (by_order order (length day.blocks) set)
  in-turn-rearranged set turn a b ahead e =
      let n : ℕ = length day.blocks in
      let size = size-rearranged order place day is in
      let ka : a < n = omega (arith, block_within (rearranged order day).blocks a _ _ ahead.first_at) in
      let kb : b < n = omega (arith, block_within (rearranged order day).blocks b _ _ ahead.second_at) in
      at-by false order n set a ka ∙ turn (order a) (order b) (ahead-rearranged a b ahead) (sym (at-by false order n set b kb) ∙ e)
