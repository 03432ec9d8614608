-- THE ROWS OF THE RECORDS, written hour by hour, are the rows of the definition: each step's executed quantity, taken from the list of its hour,
-- stands beside its record, and so does each block's row. Every row has room in 4 bytes. Assumes nothing.
use Prim.Native.Nat.{ℕ, zero, suc, ◌^◌, ◌≤◌, ◌<◌}
use mathlib.Core.Bool.{Bool, true, false, cond, and-false}
use mathlib.Core.Path.{◌≡◌, refl, sym, ap, ◌∙◌}
use mathlib.Core.List.{List, [], ◌∷◌, ◌++◌, map}
use native.Mathlib.Omega.{arith}
use lib.Dec.{eqb}
use lib.ListN.{length, drop, get_or, length-append, length-map}
use borrow.Author.Tests.{eq-eqb, ne_eqb, eqb-true, eqb-false, lt-leb}
use Rattle.fields.specs.Tests.{within, some_in, member}
use Rattle.records.specs.Records.{edition, hour_byte, step_at, block_at}
use Rattle.chains.specs.Chains.{step_order, block_order}
use Rattle.book.specs.Refusals.{Accepted}
use Rattle.chains.proofs.Laws.{or_left, or_right}
use Rattle.chains.proofs.Members.{Each, each_member}
use Rattle.book.proofs.Accepted.{StepRecord, BlockRecord, block-records}
use Rattle.rules.specs.Orders.{Step, Block, executed_of}
use Rattle.rules.specs.Hour.{when}
use Rattle.rules.specs.Execution.{execution}
use Rattle.rules.specs.Day.{keep, steps_in, taken, hour_of, set_prices, in_step_order, executed}
use Rattle.rules.specs.Outcome.{published, outcome}
use Rattle.rules.specs.Contender as contender
use Rattle.rules.proofs.Tests.{by-test, by-eq}
use Rattle.rules.proofs.ExecutionLaws.{execution-within}
use Rattle.rules.proofs.DayLaws.{executed-within}
use Rattle.rules.proofs.BoundsLaws.{executed-small, limits-small}
use Rattle.orders.specs.Bridge.{step_from, orders_of, day_from}
use Rattle.orders.specs.Columns.{step_records, block_records, in_hour, by_hour}
use Rattle.orders.proofs.RecordLaws.{steps_all, blocks-all, step-each, in_hour-member, by_hour-found, by_hour-member}
use Rattle.orders.proofs.BridgeLaws.{day-steps, prices-in-range, hours-in-range}
use Rattle.result.specs.Result.{beside, block_rows, row_of}
use Rattle.result.proofs.SizeLaws.{small-day}

-- BESIDE
-- a record that is not there
pub beside-absent : (k : ℕ) (l values : List ℕ) (other : ℕ) → member k l ≡ false → beside k l values other ≡ other
unfolding beside some_in
beside-absent k [] values other e = refl
beside-absent k (x ∷ l) [] other e = refl
beside-absent k (x ∷ l) (v ∷ values) other e =
    rw (or_left (eqb k x) (member k l) e) (beside-absent k l values other (or_right (eqb k x) (member k l) e))

-- two lists with their values, one after the other
pub beside-append : (k : ℕ) (l m values more : List ℕ) (other : ℕ) → length l ≡ length values →
    beside k (l ++ m) (values ++ more) other ≡ beside k l values (beside k m more other)
unfolding beside
beside-append k [] m [] more other e = refl
beside-append k [] m (v ∷ values) more other e = absurd (omega arith)
beside-append k (x ∷ l) m [] more other e = absurd (omega arith)
beside-append k (x ∷ l) m (v ∷ values) more other e = rw (beside-append k l m values more other (omega arith))

-- a bound of all the values
pub beside-below : (n k : ℕ) (l values : List ℕ) (other : ℕ) → Each (λ v. v < n) values → other < n → beside k l values other < n
unfolding beside
beside-below n k [] values other e h = h
beside-below n k (x ∷ l) [] other e h = h
beside-below n k (x ∷ l) (v ∷ values) other e h =
    by-test (λ t. cond t v (beside k l values other) < n) (eqb k x) (λ q. e.0) (λ q. beside-below n k l values other e.1 h)

-- THE STEPS OF AN HOUR, by their records
steps-of-hour : (b : List ℕ) (h : ℕ) (l : List ℕ) → steps_in h (map (step_from b) l) ≡ map (step_from b) (in_hour b h l)
unfolding step_from step_at in_hour
steps-of-hour b h [] = refl
steps-of-hour b h (k ∷ l) =
    by-test (λ t. keep t (step_from b k) (steps_in h (map (step_from b) l)) ≡ map (step_from b) (keep t k (in_hour b h l))) (eqb (hour_byte b k) h)
    (λ e. ap (λ (m : List Step). step_from b k ∷ m) (steps-of-hour b h l)) (λ e. steps-of-hour b h l)

-- IN STEP ORDER: a record's value is the one beside it in the group of its hour
module _ (b : List ℕ) (k other : ℕ) where
  rest-length : (t : Bool) (x : ℕ) (m qs : List ℕ) → length qs ≡ length (keep t x m) → length (drop (when t 1) qs) ≡ length m
  rest-length true x m [] e = absurd (omega arith)
  rest-length true x m (q ∷ qs) e = omega arith
  rest-length false x m qs e = e

  -- the record itself is the first of its group
  own : (x : ℕ) (m qs : List ℕ) → k ≡ x → length qs ≡ length (x ∷ m) → get_or qs 0 0 ≡ beside k (x ∷ m) qs other
  unfolding beside
  own x m [] same e = absurd (omega arith)
  own x m (q ∷ qs) same e = rw (eq-eqb k x same)

  -- another record comes first, in the group or not
  later : (t : Bool) (x : ℕ) (m qs : List ℕ) → (k ≡ x → ⊥) → length qs ≡ length (keep t x m) →
      beside k m (drop (when t 1) qs) other ≡ beside k (keep t x m) qs other
  unfolding beside
  later true x m [] differ e = absurd (omega arith)
  later true x m (q ∷ qs) differ e = rw (ne_eqb k x differ)
  later false x m qs differ e = refl

  in_order : (l : List ℕ) (q : ℕ → List ℕ) → ((h : ℕ) → length (q h) ≡ length (in_hour b h l)) →
      beside k l (in_step_order q (map (step_from b) l)) other ≡ beside k (in_hour b (hour_byte b k) l) (q (hour_byte b k)) other
  unfolding beside in_step_order step_from step_at in_hour
  in_order [] q e = refl
  in_order (x ∷ l) q e =
      let rest : ℕ → List ℕ = λ h. drop (when (eqb (hour_byte b x) h) 1) (q h) in
      let h = hour_byte b k in
      by-eq
      (λ t. cond t (get_or (q (hour_byte b x)) 0 0) (beside k l (in_step_order rest (map (step_from b) l)) other)
      ≡ beside k (keep (eqb (hour_byte b x) h) x (in_hour b h l)) (q h) other)
      k x
      (λ same.
      let hours : hour_byte b x ≡ h = ap (hour_byte b) (sym same) in
      let size = rw (eq-eqb (hour_byte b x) h hours) at (e h) in
      rw (eq-eqb (hour_byte b x) h hours, hours) (own x (in_hour b h l) (q h) same size))
      (λ differ.
      in_order l rest (λ j. rest-length (eqb (hour_byte b x) j) x (in_hour b j l) (q j) (e j))
      ∙ later (eqb (hour_byte b x) h) x (in_hour b h l) (q h) differ (e h))

-- HOUR AFTER HOUR
-- One list for each of the hours 1 to n, hour after hour.
unfoldable pub hour_after_hour : (ℕ → List ℕ) → ℕ → List ℕ
hour_after_hour q zero = []
hour_after_hour q (suc n) = hour_after_hour q n ++ q (suc n)

module _ (b : List ℕ) (q : ℕ → List ℕ) (sizes : (h : ℕ) → length (q h) ≡ length (in_hour b h (step_records b))) where
  pub hour_after_hour-length : (n : ℕ) → length (by_hour b n) ≡ length (hour_after_hour q n)
  unfolding by_hour hour_after_hour
  hour_after_hour-length zero = refl
  hour_after_hour-length (suc n) =
      omega (
        arith,
        length-append (by_hour b n) (in_hour b (suc n) (step_records b)),
        length-append (hour_after_hour q n) (q (suc n)),
        sizes (suc n),
        hour_after_hour-length n,
      )

  module _ (k other : ℕ) where
    -- a record of a later hour
    past : (n : ℕ) → n < hour_byte b k → member k (by_hour b n) ≡ false
    unfolding within
    past n h = by_hour-found b n k ∙ rw (lt-leb (hour_byte b k) n h, and-false, and-false)

    -- a record is found in the group of its hour
    in-its-hour : (n : ℕ) → 1 ≤ hour_byte b k → hour_byte b k ≤ n →
        beside k (by_hour b n) (hour_after_hour q n) other ≡ beside k (in_hour b (hour_byte b k) (step_records b)) (q (hour_byte b k)) other
    unfolding by_hour hour_after_hour
    in-its-hour zero first last = absurd (omega arith)
    in-its-hour (suc n) first last =
        let l = step_records b in
        let here = in_hour b (suc n) l in
        beside-append k (by_hour b n) here (hour_after_hour q n) (q (suc n)) other (hour_after_hour-length n)
        ∙ by-test (λ t. beside k (by_hour b n) (hour_after_hour q n) (beside k here (q (suc n)) other)
        ≡ beside k (in_hour b (hour_byte b k) l) (q (hour_byte b k)) other) (eqb (hour_byte b k) (suc n))
        (λ t.
        let same = eqb-true (hour_byte b k) (suc n) t in
        beside-absent k (by_hour b n) (hour_after_hour q n) _ (past n (omega arith)) ∙ rw same)
        (λ t.
        let differ = eqb-false (hour_byte b k) (suc n) t in
        ap (λ (x : ℕ). beside k (by_hour b n) (hour_after_hour q n) x)
        (beside-absent k here (q (suc n)) other (in_hour-member b (suc n) l k ∙ rw (t, and-false)))
        ∙ in-its-hour n first (omega arith))

-- THE EXECUTED QUANTITIES of an accepted book
-- The blocks of the published set.
abbrev pub published_blocks : List ℕ → List Block
published_blocks b = taken (day_from b).blocks (outcome (day_from b))

-- What the steps of hour h get under the published set.
unfoldable pub executed_in : List ℕ → ℕ → List ℕ
executed_in b h = execution (hour_of (day_from b) (published_blocks b) h) (set_prices (day_from b) (published_blocks b) h)

-- What the steps of hours 1 to n get, hour after hour.
unfoldable pub executed_by_hour : List ℕ → ℕ → List ℕ
executed_by_hour b n = hour_after_hour (executed_in b) n

-- what is published of a book
pub chosen_is : (b : List ℕ) → (published (orders_of b)).chosen ≡ outcome (day_from b)
unfolding published day_from
chosen_is b = refl

pub executed-is : (b : List ℕ) → (published (orders_of b)).executed ≡ executed (day_from b) (published_blocks b)
unfolding published day_from executed_of
executed-is b = refl

each-length : (R : Step → ℕ → Type 0) (l : List Step) (qs : List ℕ) → contender.Each R l qs → length qs ≡ length l
each-length R [] [] e = refl
each-length R [] (q ∷ qs) e = absurd e
each-length R (s ∷ l) [] e = absurd e
each-length R (s ∷ l) (q ∷ qs) e = ap suc (each-length R l qs e.1)

module _ (b : List ℕ) (a : Accepted b) where
  -- an hour has as many quantities as steps
  pub executed_in-length : (h : ℕ) → length (executed_in b h) ≡ length (in_hour b h (step_records b))
  unfolding executed_in
  executed_in-length h =
      each-length contender.Within (steps_in h (day_from b).steps) _
      (execution-within (hour_of (day_from b) (published_blocks b) h) (set_prices (day_from b) (published_blocks b) h))
      ∙ rw (day-steps b, steps-of-hour b h (step_order b), length-map, steps_all b a)

  -- the executed quantities in chain order
  executed-in-order : executed (day_from b) (published_blocks b) ≡ in_step_order (executed_in b) (map (step_from b) (step_order b))
  unfolding executed executed_in
  executed-in-order = ap (in_step_order (executed_in b)) (day-steps b)

  steps-by-hour : (k other : ℕ) →
      beside k (by_hour b 24) (executed_by_hour b 24) other ≡ beside k (step_order b) (published (orders_of b)).executed other
  unfolding executed_by_hour step_at
  steps-by-hour k other =
      let l = step_records b in
      by-test (λ t. beside k (by_hour b 24) (executed_by_hour b 24) other ≡ beside k l (in_step_order (executed_in b) (map (step_from b) l)) other)
      (member k l)
      (λ found.
      let r = each_member (StepRecord b) l k (step-each b a) found in
      in-its-hour b (executed_in b) executed_in-length k other 24 r.fields.hour.0 r.fields.hour.1
      ∙ sym (in_order b k other l (executed_in b) executed_in-length))
      (λ missing.
      beside-absent k (by_hour b 24) _ other (by_hour-member b a k ∙ missing) ∙ sym (beside-absent k l _ other missing))
      ∙ rw (steps_all b a, executed-is b, executed-in-order)

  -- there are as many as steps
  pub executed-count : length (executed (day_from b) (published_blocks b)) ≡ length (step_order b)
  executed-count =
      each-length contender.Within (day_from b).steps _
      (executed-within (day_from b) (prices-in-range b a) (hours-in-range b a) (published_blocks b)) ∙ rw (day-steps b, length-map)

  -- THE ROWS, HOUR BY HOUR
  pub rows-by-hour : (values : List ℕ) → values ≡ block_rows b (block_order b) (published (orders_of b)).chosen → (k : ℕ) →
      beside k (by_hour b 24) (executed_by_hour b 24) (beside k (block_records b) values 0) ≡ row_of b k
  unfolding row_of
  rows-by-hour values e k = rw (e, blocks-all b a) (steps-by-hour k _)

  -- EVERY ROW HAS ROOM
  executed-room : (l : List Step) (qs : List ℕ) → contender.Each (λ s q. q ≤ 99999) l qs → Each (λ v. v < 2 ^ 32) qs
  executed-room [] [] e = tt
  executed-room [] (q ∷ qs) e = absurd e
  executed-room (s ∷ l) [] e = absurd e
  executed-room (s ∷ l) (q ∷ qs) e = (omega (arith, e.0), executed-room l qs e.1)

  blocks-room : (l : List ℕ) (chosen : List Bool) → Each (BlockRecord b) l → Each (λ v. v < 2 ^ 32) (block_rows b l chosen)
  unfolding block_rows
  blocks-room [] chosen e = tt
  blocks-room (k ∷ l) [] e = tt
  blocks-room (k ∷ l) (t ∷ chosen) e = (
    by-test (λ u. cond u (block_at b k).quantity 0 < 2 ^ 32) t (λ q. omega (arith, e.0.fields.quantity.1, limits-small (edition b))) (λ q. omega arith),
    blocks-room l chosen e.1,
  )

  pub row_room : (k : ℕ) → row_of b k < 2 ^ 32
  unfolding row_of
  row_room k =
      beside-below (2 ^ 32) k (step_order b) _ _
      (rw (executed-is b) (executed-room (day_from b).steps _ (executed-small (day_from b) (small-day b a) (outcome (day_from b)))))
      (beside-below (2 ^ 32) k (block_order b) _ 0 (blocks-room (block_order b) _ (block-records b a)) (omega arith))

-- THE BLOCKS' ROWS, place by place
pub block_rows-length : (b l : List ℕ) (chosen : List Bool) → length chosen ≡ length l → length (block_rows b l chosen) ≡ length l
unfolding block_rows
block_rows-length b [] chosen e = refl
block_rows-length b (k ∷ l) [] e = absurd (omega arith)
block_rows-length b (k ∷ l) (t ∷ chosen) e = ap suc (block_rows-length b l chosen (omega arith))

pub block_rows-at : (b l : List ℕ) (chosen : List Bool) (i : ℕ) → length chosen ≡ length l → i < length l →
    get_or (block_rows b l chosen) i 0 ≡ cond (get_or chosen i false) (block_at b (get_or l i 0)).quantity 0
unfolding block_rows
block_rows-at b [] chosen i e h = absurd (omega arith)
block_rows-at b (k ∷ l) [] i e h = absurd (omega arith)
block_rows-at b (k ∷ l) (t ∷ chosen) zero e h = refl
block_rows-at b (k ∷ l) (t ∷ chosen) (suc i) e h = block_rows-at b l chosen i (omega arith) (omega arith)
