-- THE PROMISE OF A CLEARING IS KEPT: where the result bytes are those of their definition, demands 2 and 3 hold of the numbers read off them; and the
-- whole promise for a published and for a refused clearing. Assumes nothing.
use Prim.Native.Nat.{ℕ, zero, suc, ◌+◌, ◌-◌, ◌*◌, ◌≤◌, ◌<◌}
use mathlib.Core.Bool.{Bool, true, false, cond, ◌||◌}
use mathlib.Core.Path.{◌≡◌, refl, sym, ap₂, ◌∙◌}
use mathlib.Core.List.{List, [], ◌∷◌, ◌++◌, map}
use native.Mathlib.Omega.{arith}
use lib.Dec.{eqb}
use lib.ListN.{length, get_or, length-append, length-map, get_or-append}
use lib.Seq.{get_or_at}
use borrow.Author.Tests.{eq-eqb, ne_eqb, eqb-true}
use Rattle.records.specs.Bytes.{u32_at}
use Rattle.fields.specs.Tests.{some_in, member}
use Rattle.records.specs.Records.{record_count, day_hours, block_at}
use Rattle.chains.specs.Chains.{step_order, block_order, link_order}
use Rattle.book.specs.Refusals.{own_causes, first_cause, refusal, Accepted}
use Rattle.chains.proofs.Members.{Each, each_member, Distinct}
use Rattle.book.proofs.Refused.{refusal-then, answer-refused, answered_some, number-of-causes, own-have, have-append}
use Rattle.book.proofs.Accepted.{accepted-zero, StepRecord, BlockRecord, LinkRecord, step-records, block-records, link-records}
use Rattle.book.proofs.Accepted.{steps-distinct, blocks-distinct, one-chain, link-only, record-count}
use Rattle.rules.specs.Hour.{when}
use Rattle.rules.specs.Contender.{Counts}
use Rattle.rules.proofs.CurveLaws.{when-le}
use Rattle.rules.specs.Day.{change_hour, spring_hours, weight, is_counted, set_prices, traded, executed, welfare}
use Rattle.rules.specs.Outcome.{for_hours, published, outcome}
use Rattle.rules.proofs.Tests.{by-eq, clash}
use Rattle.rules.proofs.BestLaws.{outcome-first}
use Rattle.rules.proofs.DayLaws.{empty-lawful, outcome-beats-all}
use Rattle.rules.proofs.OutcomeRulesLaws.{outcome-obeys-as}
use Rattle.rules.proofs.BoundsLaws.{price-small, welfare-small, traded-small}
use Rattle.orders.specs.Bridge.{orders_of, day_from}
use Rattle.orders.proofs.BridgeLaws.{day-blocks, day-quiet, day-hours-read, prices-in-range, hours-in-range}
use Rattle.result.specs.Result.{bytes_of, hour_rows, beside, block_rows, row_of, record_rows, result_bytes}
use Rattle.result.specs.Result.{welfare_in, price_in, traded_in, row_in, step_rows_in, taken_in}
use Rattle.result.specs.Promise.{wrong_buffer, clear_refusal, clearing, result_after, RowsInFull, Demands, Promise}
use Rattle.std.specs.Prelude.{Ok, Err}
use Rattle.book.specs.Numbers.{refusal_numbered, answered, number_of}
use Rattle.book.specs.Answers.{reading}
use Rattle.book.specs.declared.refusal.Refusal.{Refusal}
use Rattle.book.specs.declared.refusal.Refusal.TheVariants.{WrongBuffer}
use Rattle.result.proofs.ReadLaws.{welfare-read, price-read, traded-read, row_read_lem, length-result}
use Rattle.result.proofs.SizeLaws.{small-day}
use Rattle.result.proofs.RowsLaws.{published_blocks, chosen_is, executed-is, executed-count, beside-absent, block_rows-length, row_room}

-- ROWS READ ALONG A CHAIN on which no record stands twice
-- where each record's row is the value beside it, the rows are the values
rows_are : (row other : ℕ → ℕ) (l values : List ℕ) → Distinct l → length values ≡ length l →
    ((k : ℕ) → member k l ≡ true → row k ≡ beside k l values (other k)) → map row l ≡ values
unfolding beside some_in
rows_are row other [] [] d e f = refl
rows_are row other [] (v ∷ values) d e f = absurd (omega arith)
rows_are row other (x ∷ l) [] d e f = absurd (omega arith)
rows_are row other (x ∷ l) (v ∷ values) d e f =
    ap₂ ◌∷◌ (own (eq-eqb x x refl) (f x))
    (rows_are row other l values d.1 (omega arith) (λ k m. next k m (eqb k x) refl (f k)))
  where
    own : eqb x x ≡ true → ((eqb x x || member x l) ≡ true → row x ≡ cond (eqb x x) v (beside x l values (other x))) → row x ≡ v
    own t g = rw t at (g (rw t))

    next : (k : ℕ) → member k l ≡ true → (t : Bool) → eqb k x ≡ t →
        ((eqb k x || member k l) ≡ true → row k ≡ cond (eqb k x) v (beside k l values (other k))) → row k ≡ beside k l values (other k)
    next k m true t g = clash m (rw (eqb-true k x t) d.0)
    next k m false t g = rw t at (g (rw t m))

-- so each block's row is its quantity or 0 ..
rows-in-full : (b result l : List ℕ) (chosen : List Bool) → length chosen ≡ length l → map (row_in result) l ≡ block_rows b l chosen →
    RowsInFull b result l chosen
unfolding block_rows
rows-in-full b result [] chosen e f = tt
rows-in-full b result (k ∷ l) [] e f = absurd (omega arith)
rows-in-full b result (k ∷ l) (true ∷ chosen) e f = (cc, rows-in-full b result l chosen (omega arith) (cc))
rows-in-full b result (k ∷ l) (false ∷ chosen) e f = (cc, rows-in-full b result l chosen (omega arith) (cc))

-- .. and tells whether it is taken
taken-told : (t : Bool) (row quantity : ℕ) → 1 ≤ quantity → row ≡ cond t quantity 0 → eqb row quantity ≡ t
taken-told true row quantity h e = eq-eqb row quantity e
taken-told false row quantity h e = ne_eqb row quantity (λ q. omega arith)

taken-read : (b result l : List ℕ) (chosen : List Bool) → Each (BlockRecord b) l → length chosen ≡ length l →
    map (row_in result) l ≡ block_rows b l chosen → map (λ k. eqb (row_in result k) (block_at b k).quantity) l ≡ chosen
unfolding block_rows
taken-read b result [] [] r e f = refl
taken-read b result [] (t ∷ chosen) r e f = absurd (omega arith)
taken-read b result (k ∷ l) [] r e f = absurd (omega arith)
taken-read b result (k ∷ l) (t ∷ chosen) r e f =
    ap₂ ◌∷◌ (taken-told t _ _ r.0.fields.quantity.0 (cc)) (taken-read b result l chosen r.1 (omega arith) (cc))

-- as many decisions as blocks
pub outcome-count : (b : List ℕ) → Accepted b → length (outcome (day_from b)) ≡ length (block_order b)
outcome-count b a =
    (outcome-first (day_from b) (empty-lawful (day_from b) (prices-in-range b a) (hours-in-range b a))).of_blocks ∙ rw (day-blocks b, length-map)

-- WHAT THE BYTES SAY
-- a number of an hour that counts; 0 for the others
abbrev pub where_counted : List ℕ → (ℕ → ℕ) → ℕ → ℕ
where_counted b f h = when (is_counted (day_from b).hours h) (f h)

where-counted : (b : List ℕ) (f : ℕ → ℕ) (h : ℕ) → Counts (day_from b).hours h → where_counted b f h ≡ f h
unfolding is_counted
where-counted b f h c = rw (ne_eqb (weight (day_from b).hours h) 0 (omega (arith, c.counted)))

-- A result that says what is published of the book: its welfare, its hours, its records' rows.
pub record Says (b result : List ℕ) : Type 0 where
  pub welfare_read : welfare_in result ≡ (published (orders_of b)).welfare
  pub price_read : (h : ℕ) → 1 ≤ h → h ≤ 24 → price_in result h ≡ where_counted b (set_prices (day_from b) (published_blocks b)) h
  pub traded_read : (h : ℕ) → 1 ≤ h → h ≤ 24 → traded_in result h ≡ where_counted b (traded (day_from b) (published_blocks b)) h
  pub row_read : (k : ℕ) → 1 ≤ k → k < record_count b → row_in result k ≡ row_of b k

module _ (b result : List ℕ) (a : Accepted b) (s : Says b result) where
  -- the rows of the steps are their executed quantities
  pub step-rows-read : step_rows_in b result ≡ executed (day_from b) (published_blocks b)
  unfolding step_rows_in row_of
  step-rows-read =
      rows_are (row_in result) (λ k. beside k (block_order b) (block_rows b (block_order b) (published (orders_of b)).chosen) 0) (step_order b)
      (executed (day_from b) (published_blocks b)) (steps-distinct b a) (executed-count b a)
      (λ k m.
      let r = each_member (StepRecord b) (step_order b) k (step-records b a) m in
      s.row_read k r.positive r.inside ∙ rw (executed-is b))

  -- a block's record is not on the step chain
  block_row : (k : ℕ) → member k (block_order b) ≡ true →
      row_in result k ≡ beside k (block_order b) (block_rows b (block_order b) (outcome (day_from b))) 0
  unfolding row_of
  block_row k m =
      let r = each_member (BlockRecord b) (block_order b) k (block-records b a) m in
      s.row_read k r.positive r.inside
      ∙ beside-absent k (step_order b) _ _ (one-chain b a k r.positive r.inside ∙ rw m)
      ∙ rw (chosen_is b)

  -- a link's row is 0: its record is on neither of those chains
  pub link_row : (k : ℕ) → member k (link_order b) ≡ true → row_in result k ≡ 0
  unfolding row_of
  link_row k m =
      let r = each_member (LinkRecord b) (link_order b) k (link-records b a) m in
      let only = link-only b a k m in
      s.row_read k r.positive r.inside
      ∙ beside-absent k (step_order b) _ _ only.0
      ∙ beside-absent k (block_order b) _ _ only.1

  -- the rows of the blocks, by the outcome
  block-rows-read : map (row_in result) (block_order b) ≡ block_rows b (block_order b) (outcome (day_from b))
  block-rows-read =
      rows_are (row_in result) (λ k. 0) (block_order b) _ (blocks-distinct b a)
      (block_rows-length b (block_order b) (outcome (day_from b)) (outcome-count b a)) block_row

  -- the blocks taken are those of the outcome
  pub taken_is : taken_in b result ≡ outcome (day_from b)
  unfolding taken_in
  taken_is = taken-read b result (block_order b) (outcome (day_from b)) (block-records b a) (outcome-count b a) block-rows-read

  welfare-is-read : welfare_in result ≡ welfare (day_from b) (outcome (day_from b))
  unfolding published day_from
  welfare-is-read = s.welfare_read

  -- DEMANDS 2 AND 3 hold of a result that says what is published
  pub demands-met : Demands b result
  demands-met =
      record {
        obeys = rw (taken_is, step-rows-read)
            (outcome-obeys-as (day_from b) (prices-in-range b a) (hours-in-range b a) (price_in result) (traded_in result) (day-quiet b a).steps
            (λ h c. s.price_read h c.first c.last ∙ where-counted b (set_prices (day_from b) (published_blocks b)) h c)
            (λ h c. s.traded_read h c.first c.last ∙ where-counted b (traded (day_from b) (published_blocks b)) h c));
        blocks_in_full = rw taken_is (rows-in-full b result (block_order b) (outcome (day_from b)) (outcome-count b a) block-rows-read);
        best = rw (taken_is, step-rows-read, welfare-is-read) (outcome-beats-all (day_from b) (prices-in-range b a) (hours-in-range b a));
      }

-- THE NUMBER OF A REFUSAL
-- the book's own, then 7, else 0
pub refused-book : (b before : List ℕ) (n : ℕ) → refusal b ≡ n → (n ≡ 0 → ⊥) → clear_refusal b before ≡ n
unfolding clear_refusal
refused-book b before n e f = refusal-then b _ ∙ rw (e, ne_eqb n 0 f)

pub refused-buffer : (b before : List ℕ) → Accepted b → (length before ≡ 196 + 4 * record_count b → ⊥) → clear_refusal b before ≡ 7
unfolding clear_refusal wrong_buffer first_cause
refused-buffer b before a f = refusal-then b _ ∙ rw (accepted-zero b a, ne_eqb (length before) (196 + 4 * record_count b) f)

pub not-refused : (b before : List ℕ) → Accepted b → length before ≡ 196 + 4 * record_count b → clear_refusal b before ≡ 0
unfolding clear_refusal wrong_buffer first_cause
not-refused b before a e = refusal-then b _ ∙ rw (accepted-zero b a, eq-eqb (length before) (196 + 4 * record_count b) e)

-- the answer's number is it
pub number-clearing : (b before : List ℕ) → number_of (clearing b before) ≡ clear_refusal b before
unfolding clearing clear_refusal first_cause refusal_numbered
number-clearing b before = number-of-causes (own_causes b ++ ((wrong_buffer b before, 7) ∷ [])) tt (have-append (own_causes b) _ (own-have b) (refl, tt))

-- THE PROMISE of a refused clearing
pub promise-refused : (b before after : List ℕ) (n : ℕ) → clear_refusal b before ≡ n → (n ≡ 0 → ⊥) → after ≡ before → Promise b before after (Err (refusal_numbered n))
unfolding clearing result_after
promise-refused b before after n e f same =
    record {
      answers = rw e (sym (answered_some n tt f));
      bytes = same ∙ rw (e, ne_eqb n 0 f);
      demands = λ q. absurd (cc);
    }

-- for the book's own refusal
pub promise-refused-book : (b before after : List ℕ) (why : Refusal) → reading b ≡ Err why → after ≡ before → Promise b before after (Err why)
promise-refused-book b before after why e same =
    let r = answer-refused b why e in
    rw r.2 (promise-refused b before after (refusal b) (refused-book b before (refusal b) refl r.0) r.0 same)

-- for a buffer of another size
pub promise-refused-buffer : (b before after : List ℕ) → Accepted b → (length before ≡ 196 + 4 * record_count b → ⊥) → after ≡ before
    → Promise b before after (Err WrongBuffer)
unfolding refusal_numbered
promise-refused-buffer b before after a f same = promise-refused b before after 7 (refused-buffer b before a f) (λ e. omega arith) same

-- THE HOURS IN ORDER
pub hours-length : (n : ℕ) (f : ℕ → ℕ) → length (for_hours n f) ≡ n
unfolding for_hours
hours-length zero f = refl
hours-length (suc n) f = omega (arith, length-append (for_hours n f) (f (suc n) ∷ []), hours-length n f)

pub hour-at : (n : ℕ) (f : ℕ → ℕ) (h : ℕ) → 1 ≤ h → h ≤ n → get_or (for_hours n f) (h - 1) 0 ≡ f h
unfolding for_hours
hour-at zero f h first last = absurd (omega arith)
hour-at (suc n) f h first last =
    by-eq (λ t. get_or (for_hours n f ++ (f (suc n) ∷ [])) (h - 1) 0 ≡ f h) h (suc n)
    (λ same. get_or_at (for_hours n f) (f (suc n)) [] 0 (h - 1) (omega (arith, hours-length n f)) ∙ rw same)
    (λ other.
    get_or-append (for_hours n f) (f (suc n) ∷ []) 0 (h - 1) (omega (arith, hours-length n f)) ∙ hour-at n f h first (omega arith))

-- WHAT THE BYTES OF THE DEFINITION SAY of an accepted book
module _ (b : List ℕ) (a : Accepted b) where
  abbrev pub P : ℕ → ℕ
  P = where_counted b (set_prices (day_from b) (published_blocks b))

  abbrev pub Q : ℕ → ℕ
  Q = where_counted b (traded (day_from b) (published_blocks b))

  abbrev pub W : ℕ
  W = welfare (day_from b) (outcome (day_from b))

  pub bytes-are : result_bytes b
      ≡ bytes_of 8 W ++ (hour_rows (for_hours 24 P) (for_hours 24 Q) ++ record_rows (row_of b) (record_count b - 1) 1)
  unfolding result_bytes published day_from
  bytes-are = refl

  pub result-welfare : welfare_in (result_bytes b) ≡ welfare (day_from b) (outcome (day_from b))
  result-welfare = rw bytes-are (welfare-read W _ (omega (arith, welfare-small (day_from b) (small-day b a) (outcome (day_from b)))))

  pub result-price : (h : ℕ) → 1 ≤ h → h ≤ 24 → price_in (result_bytes b) h ≡ where_counted b (set_prices (day_from b) (published_blocks b)) h
  result-price h first last =
      let at = hour-at 24 P h first last in
      let most = price-small (day_from b) (prices-in-range b a) (published_blocks b) h in
      let less = when-le (is_counted (day_from b).hours h) (set_prices (day_from b) (published_blocks b) h) in
      rw bytes-are (price-read W (for_hours 24 P) (for_hours 24 Q) _ h (hours-length 24 P) (hours-length 24 Q) first last (omega arith) ∙ at)

  pub result-traded : (h : ℕ) → 1 ≤ h → h ≤ 24 → traded_in (result_bytes b) h ≡ where_counted b (traded (day_from b) (published_blocks b)) h
  result-traded h first last =
      let at = hour-at 24 Q h first last in
      let most = traded-small (day_from b) (small-day b a) (outcome (day_from b)) h in
      let less = when-le (is_counted (day_from b).hours h) (traded (day_from b) (published_blocks b) h) in
      rw bytes-are (traded-read W (for_hours 24 P) (for_hours 24 Q) _ h (hours-length 24 P) (hours-length 24 Q) first last (omega arith) ∙ at)

  -- on a day of 23 hours the row of hour 3 is 0 and 0
  pub spring-row : day_hours b ≡ spring_hours → (price_in (result_bytes b) change_hour ≡ 0) × (traded_in (result_bytes b) change_hour ≡ 0)
  unfolding is_counted weight
  spring-row e =
      let hours = day-hours-read b ∙ e in (
        result-price change_hour (omega arith) (omega arith) ∙ rw hours,
        result-traded change_hour (omega arith) (omega arith) ∙ rw hours,
      )

  -- the row of record k stands from byte 196 + 4 × k on
  pub result_row : (k : ℕ) → 1 ≤ k → k < record_count b → u32_at (result_bytes b) (196 + 4 * k) ≡ row_of b k
  result_row k first last =
      rw bytes-are
      (row_read_lem W (for_hours 24 P) (for_hours 24 Q) (row_of b) (record_count b - 1) k (hours-length 24 P) (hours-length 24 Q) first (omega arith)
      (row_room b a k))

  pub result-length : length (result_bytes b) ≡ 196 + 4 * record_count b
  result-length =
      let r = record-count b a in
      rw bytes-are
      (length-result W (for_hours 24 P) (for_hours 24 Q) (row_of b) (record_count b - 1) (hours-length 24 P) (hours-length 24 Q) ∙ omega (arith, r.0))

-- THE PROMISE of a published clearing
row-place : (result : List ℕ) (k : ℕ) → row_in result k ≡ u32_at result (196 + 4 * k)
unfolding row_in
row-place result k = refl

pub result_says : (b : List ℕ) → Accepted b → Says b (result_bytes b)
unfolding published day_from
result_says b a =
    record {
      welfare_read = result-welfare b a;
      price_read = result-price b a;
      traded_read = result-traded b a;
      row_read = λ k first last. row-place (result_bytes b) k ∙ result_row b a k first last;
    }

pub promise-kept : (b : List ℕ) → Accepted b → Demands b (result_bytes b)
promise-kept b a = demands-met b (result_bytes b) a (result_says b a)

pub promise-published : (b before after : List ℕ) → Accepted b → length before ≡ 196 + 4 * record_count b → after ≡ result_bytes b →
    Promise b before after (Ok tt)
unfolding clearing result_after answered
promise-published b before after a size same =
    record {
      answers = rw (not-refused b before a size);
      bytes = same ∙ rw (not-refused b before a size);
      demands = λ q. rw same (promise-kept b a);
    }
