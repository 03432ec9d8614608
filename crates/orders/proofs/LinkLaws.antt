-- LINKS: how the functions find a block's parent, the column of the parents, and that an accepted book's links stand as the rules ask of a day; the column then
-- has the places of the day's parents. Assumes nothing.
use Prim.Native.Nat.{ℕ, zero, suc, ◌+◌, ◌-◌, ◌≤◌, ◌<◌}
use mathlib.Core.Path.{◌≡◌, refl, ap, sym, ◌∙◌}
use mathlib.Core.List.{List, [], ◌∷◌, ◌++◌, map}
use mathlib.Core.Bool.{true, cond, ◌||◌}
use native.Mathlib.Omega.{arith}
use native.Mathlib.Numerals.{add-one}
use borrow.Author.Tests.{eq-eqb, ne_eqb}
use lib.Dec.{eqb}
use lib.ListN.{length, take, drop, get_or, replicate, length-map, drop_of_length-le}
use lib.Seq.{drop-cons}
use Rattle.records.specs.Records.{first_block, first_link, number, block_at, link_at}
use Rattle.fields.specs.Tests.{some_in}
use Rattle.chains.specs.Chains.{chain, block_order, link_order, links}
use Rattle.chains.specs.Causes.{is_number, has_block}
use Rattle.book.specs.Refusals.{Accepted}
use Rattle.chains.proofs.Laws.{chain-end}
use Rattle.chains.proofs.Members.{Each}
use Rattle.chains.proofs.Distinct.{Rising}
use Rattle.book.proofs.Accepted.{blocks-rising, links-rising, LinkNames, links-named}
use Rattle.rules.specs.Orders.{Link, canonical}
use Rattle.rules.specs.Day.{is_among}
use Rattle.rules.specs.Day as day
use Rattle.rules.specs.Families.{parent_of}
use Rattle.rules.specs.Contender.{NumbersRise, ChildrenRise, EachLink, LinksStand}
use Rattle.rules.proofs.Tests.{by-eq, by-lt}
use Rattle.rules.proofs.LinkLaws.{place_from, number_at, parent_place}
use Rattle.orders.specs.Layout.{block_places}
use Rattle.orders.specs.Bridge.{block_from, block_on, link_from, orders_of, day_from}
use Rattle.orders.specs.Columns.{block_records, padded, parent_among, place_among, parent_place_in, parent_place_at, parent_column}
use Rattle.orders.proofs.ColumnLaws.{zeros, Filled, filled-all}
use Rattle.orders.proofs.BridgeLaws.{day-blocks}
use Rattle.orders.proofs.RecordLaws.{block-records-fit, blocks-all}

-- THE FUNCTIONS
-- The record at place i has the number, or the search goes on behind it
pub place_here : (b l : List ℕ) (i n : ℕ) → i < length l → number b (get_or l i 0) ≡ n → place_among b i (drop i l) n ≡ suc i
unfolding place_among
place_here b l i n h e = rw (drop-cons l i 0 h, eq-eqb _ _ e)

pub place-later : (b l : List ℕ) (i n : ℕ) → i < length l → (number b (get_or l i 0) ≡ n → ⊥)
    → place_among b i (drop i l) n ≡ place_among b (i + 1) (drop (i + 1) l) n
unfolding place_among
place-later b l i n h e = rw (drop-cons l i 0 h, ne_eqb _ _ e, add-one)

pub place_none : (b l : List ℕ) (i n : ℕ) → length l ≤ i → place_among b i (drop i l) n ≡ 0
unfolding place_among
place_none b l i n h = rw (drop_of_length-le l h)

-- Without links no block has a parent
none-linked : (b l : List ℕ) → first_link b ≡ 0 → (m : List ℕ) → map (parent_place_at b l) m ≡ replicate (length m) 0
unfolding parent_place_at parent_place_in parent_among link_order
none-linked b l e [] = refl
none-linked b l e (k ∷ m) = rw (chain-end _ b _ e) (ap (λ (r : List ℕ). 0 ∷ r) (none-linked b l e m))

zeros-join : (m n : ℕ) → m ≤ n → replicate {A = ℕ} m 0 ++ replicate (n - m) 0 ≡ replicate n 0
zeros-join zero n h = let e : n - 0 ≡ n = omega arith in rw e
zeros-join (suc m) zero h = absurd (omega arith)
zeros-join (suc m) (suc n) h =
    let e : suc n - suc m ≡ n - m = omega arith in
    rw e (ap (λ (r : List ℕ). 0 ∷ r) (zeros-join m n (omega arith)))

pub parents-none : (b : List ℕ) → first_link b ≡ 0 → replicate 32 0 ≡ parent_column b
unfolding parent_column padded
parents-none b e =
    let l = block_records b in
    let size = length-map l (parent_place_at b l) in
    sym (rw (size, none-linked b l e l) (zeros-join (length l) 32 (block-records-fit b)))

-- The column is filled
pub parents-filled : (b : List ℕ) (first i : ℕ) (index parents : List ℕ) → first ≡ first_block b → length index ≡ i → index ≡ take 32 (chain b first)
    → Filled 32 (parent_place_at b index) index i parents → parents ≡ parent_column b
unfolding parent_column block_records block_order
parents-filled b first i index parents f e chained filled =
    let whole : index ≡ block_records b = chained ∙ rw f in
    rw (← whole) (filled-all 32 (parent_place_at b index) index i parents e filled)

-- THE LINKS OF THE DAY
pub day-links : (b : List ℕ) → (day_from b).links ≡ map (link_from b) (link_order b)
unfolding day_from day.day_of orders_of canonical
day-links b = refl

-- Numbers that rise along a chain rise among the day's blocks and its links
numbers-rise : (b : List ℕ) (last : ℕ) (l : List ℕ) → Rising b last l → NumbersRise last (map (block_on b) l)
unfolding block_from block_at
numbers-rise b last [] h = tt
numbers-rise b last (k ∷ l) h = (h.0, numbers-rise b (number b k) l h.1)

children-rise : (b : List ℕ) (last : ℕ) (l : List ℕ) → Rising b last l → ChildrenRise last (map (link_from b) l)
unfolding link_from link_at
children-rise b last [] h = tt
children-rise b last (k ∷ l) h = (h.0, children-rise b (number b k) l h.1)

-- A number is among the day's blocks where it is among the book's
among_same : (b : List ℕ) (n : ℕ) (l : List ℕ) → is_among (map (block_on b) l) n ≡ some_in l (is_number b n)
unfolding some_in is_number block_from block_at
among_same b n [] = refl
among_same b n (k ∷ l) = ap (λ t. eqb (number b k) n || t) (among_same b n l)

block-among : (b : List ℕ) (n : ℕ) → has_block b n ≡ true → is_among (map (block_on b) (block_order b)) n ≡ true
unfolding has_block
block-among b n e = among_same b n (block_order b) ∙ e

each-link : (b : List ℕ) (P : Link → Type 0) (l : List ℕ) → ((k : ℕ) → LinkNames b (link_at b k) → P (link_from b k))
    → Each (LinkNames b) (map (link_at b) l) → EachLink P (map (link_from b) l)
each-link b P [] f h = tt
each-link b P (k ∷ l) f h = (f k h.0, each-link b P l f h.1)

-- What the rules ask of a day's links
pub links-stand : (b : List ℕ) → Accepted b → LinksStand (day_from b)
unfolding links link_from
links-stand b a =
    let l = link_order b in
    let blocks = map (block_on b) (block_order b) in
    let names : Each (LinkNames b) (map (link_at b) l) = links-named b a in
    record {
      numbers = rw (day-blocks b) (numbers-rise b 0 (block_order b) (blocks-rising b a));
      children = rw (day-links b) (children-rise b 0 l (links-rising b a));
      child_in = rw (day-links b, day-blocks b)
          (each-link b (λ link. is_among blocks link.child ≡ true) l (λ k n. block-among b _ n.child_in) names);
      parent_in = rw (day-links b, day-blocks b)
          (each-link b (λ link. is_among blocks link.parent ≡ true) l (λ k n. block-among b _ n.parent_in) names);
      parent_below = rw (day-links b) (each-link b (λ link. link.parent < link.child) l (λ k n. n.parent_below) names);
    }

-- THE PARENTS OF THE DAY
-- A block's parent and its place, by the rules and by the records
parent-same : (b : List ℕ) (l : List ℕ) (n : ℕ) → parent_of (map (link_from b) l) n ≡ parent_among b l n
unfolding parent_of parent_among link_from
parent-same b [] n = refl
parent-same b (i ∷ l) n = ap (λ m. cond (eqb (link_at b i).child n) (link_at b i).parent m) (parent-same b l n)

place_same : (b : List ℕ) (i : ℕ) (l : List ℕ) (n : ℕ) → place_from i (map (block_on b) l) n ≡ place_among b i l n
unfolding place_among block_from block_at
place_same b i [] n = refl
place_same b i (k ∷ l) n = ap (λ m. cond (eqb (number b k) n) (suc i) m) (place_same b (suc i) l n)

number_same : (b : List ℕ) (l : List ℕ) (j : ℕ) → j < length l → number_at (map (block_on b) l) j ≡ number b (get_or l j 0)
unfolding block_from block_at
number_same b [] j h = absurd (omega arith)
number_same b (k ∷ l) zero h = refl
number_same b (k ∷ l) (suc j) h = number_same b l j (omega arith)

number_behind : (b : List ℕ) (l : List ℕ) (j : ℕ) → length l ≤ j → number_at (map (block_on b) l) j ≡ 0
number_behind b [] j h = refl
number_behind b (k ∷ l) zero h = absurd (omega arith)
number_behind b (k ∷ l) (suc j) h = number_behind b l j (omega arith)

-- A number that is not above the last is neither a block's nor a child's among those that rise from it
no_place : (b : List ℕ) (i last : ℕ) (l : List ℕ) (n : ℕ) → Rising b last l → n ≤ last → place_among b i l n ≡ 0
unfolding place_among
no_place b i last [] n h g = refl
no_place b i last (k ∷ l) n h g =
    rw (ne_eqb (number b k) n (λ e. omega (arith, h.0))) (no_place b (suc i) (number b k) l n h.1 (omega (arith, h.0)))

no-parent : (b : List ℕ) (last : ℕ) (l : List ℕ) (n : ℕ) → Rising b last l → n ≤ last → parent_among b l n ≡ 0
unfolding parent_among link_at
no-parent b last [] n h g = refl
no-parent b last (k ∷ l) n h g =
    rw (ne_eqb (number b k) n (λ e. omega (arith, h.0))) (no-parent b (number b k) l n h.1 (omega (arith, h.0)))

-- .. so that no block stands at the place of the number 0
place_in : (b : List ℕ) (l : List ℕ) (n : ℕ) → Rising b 0 l → parent_place_in b l n ≡ place_among b 0 l n
unfolding parent_place_in
place_in b l n h =
    by-eq (λ t. cond t 0 (place_among b 0 l n) ≡ place_among b 0 l n) n 0 (λ e. rw e (sym (no_place b 0 0 l 0 h (omega arith)))) (λ e. refl)

-- A column place by place
column-at : (f : ℕ → ℕ) (l m : List ℕ) (j : ℕ) → j < length l → get_or (map f l ++ m) j 0 ≡ f (get_or l j 0)
column-at f [] m j h = absurd (omega arith)
column-at f (k ∷ l) m zero h = refl
column-at f (k ∷ l) m (suc j) h = column-at f l m j (omega arith)

column-behind : (f : ℕ → ℕ) (l : List ℕ) (n j : ℕ) → length l ≤ j → get_or (map f l ++ replicate n 0) j 0 ≡ 0
column-behind f [] n j h = zeros n j
column-behind f (k ∷ l) n zero h = absurd (omega arith)
column-behind f (k ∷ l) n (suc j) h = column-behind f l n j (omega arith)

place-by-records : (b : List ℕ) (j : ℕ)
    → parent_place (day_from b) j ≡ place_among b 0 (block_order b) (parent_among b (link_order b) (number_at (map (block_on b) (block_order b)) j))
unfolding parent_place
place-by-records b j =
    rw (day-blocks b, day-links b)
    (place_same b 0 (block_order b) _ ∙ ap (place_among b 0 (block_order b)) (parent-same b (link_order b) _))

-- The column has the places of the day's parents
pub parents-read : (b : List ℕ) → Accepted b → (j : ℕ) → get_or (parent_column b) j 0 ≡ parent_place (day_from b) j
unfolding parent_column padded parent_place_at
parents-read b a j =
    let l = block_order b in
    let rise = blocks-rising b a in
    by-lt (λ t. get_or (parent_column b) j 0 ≡ parent_place (day_from b) j) j (length l)
    (λ h.
    let here : get_or (parent_column b) j 0 ≡ parent_place_at b l (get_or l j 0) = rw (blocks-all b a) (column-at (parent_place_at b l) l _ j h) in
    here ∙ place_in b l _ rise ∙ sym (place-by-records b j ∙ rw (number_same b l j h)))
    (λ h.
    let room = block_places - length (map (parent_place_at b l) l) in
    let behind : get_or (parent_column b) j 0 ≡ 0 = rw (blocks-all b a) (column-behind (parent_place_at b l) l room j h) in
    let none = no-parent b 0 (link_order b) 0 (links-rising b a) (omega arith) in
    behind ∙ sym (place-by-records b j ∙ rw (number_behind b l j h, none) (no_place b 0 0 l 0 rise (omega arith))))
