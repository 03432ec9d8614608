-- AN HOUR OF THE DAY IS ITS COLUMNS: the steps of hour h stand in each column from `ends` at h − 1 up to `ends` at h, and are the steps that the
-- rules see in that hour. Assumes nothing.
use Prim.Native.Nat.{ℕ, zero, suc, ◌+◌, ◌-◌, ◌≤◌, ◌<◌}
use mathlib.Core.Path.{◌≡◌, refl, ap, sym, ◌∙◌}
use mathlib.Core.List.{List, [], ◌∷◌, ◌++◌, map}
use native.Mathlib.Omega.{arith}
use native.Mathlib.Numerals.{add-one, sub-one}
use borrow.Author.Tests.{ne_eqb}
use lib.ListN.{length, take, get_or, length-map}
use lib.Seq.{slice, take-take, drop_at}
use Rattle.records.specs.Records.{hour_byte, side_byte, side_of, step_at}
use Rattle.chains.specs.Chains.{step_order}
use Rattle.book.specs.Refusals.{Accepted}
use Rattle.chains.proofs.Members.{Each}
use Rattle.book.proofs.Accepted.{StepRecord, step-records}
use Rattle.rules.specs.Orders.{Step, steps_of, canonical}
use Rattle.rules.specs.Day.{day_of, keep, steps_in}
use Rattle.rules.proofs.Tests.{by-eq}
use Rattle.orders.specs.Bridge.{side_from, step_from, order_from, orders_of, day_from}
use Rattle.orders.specs.Columns.{step_records, in_hour, by_hour, step_side_at, step_price_at, step_quantity_at}
use Rattle.orders.specs.Columns.{StepColumns, side_for, steps_from}
use Rattle.orders.proofs.FrontLaws.{step-sides-front, step-prices-front, step-quantities-front}
use Rattle.orders.proofs.RecordLaws.{steps_all, by_hour-more, by_hour-rise, by_hour-front, by_hour-fit, step-as-read}

-- THE ENDS
-- The columns start at 0, rise hour by hour, and stay within their arrays
pub ends-start : (b ends records sides prices quantities : List ℕ) → StepColumns b ends records sides prices quantities → get_or ends 0 0 ≡ 0
unfolding by_hour
ends-start b ends records sides prices quantities c = c.ends_at 0 (omega arith)

pub ends-rise : (b ends records sides prices quantities : List ℕ) → StepColumns b ends records sides prices quantities
    → (g h : ℕ) → g ≤ h → h ≤ 24 → get_or ends g 0 ≤ get_or ends h 0
ends-rise b ends records sides prices quantities c g h le last = rw (c.ends_at g (omega arith), c.ends_at h last) (by_hour-rise b g h le)

pub ends-fit : (b ends records sides prices quantities : List ℕ) → StepColumns b ends records sides prices quantities
    → (h : ℕ) → h ≤ 24 → get_or ends h 0 ≤ 2048
ends-fit b ends records sides prices quantities c h last = rw (c.ends_at h last) (by_hour-fit b h)

-- A COLUMN'S PART OF AN HOUR
map-take : {A : Type 0} (f : ℕ → A) (n : ℕ) (l : List ℕ) → take n (map f l) ≡ map f (take n l)
map-take f zero l = refl
map-take f (suc n) [] = refl
map-take f (suc n) (x ∷ l) = ap (λ m. f x ∷ m) (map-take f n l)

map-append : (f : ℕ → ℕ) (l m : List ℕ) → map f (l ++ m) ≡ map f l ++ map f m
map-append f [] m = refl
map-append f (x ∷ l) m = ap (λ (k : List ℕ). f x ∷ k) (map-append f l m)

-- a column up to the end of hour h
column-to : (f : ℕ → ℕ) (b : List ℕ) (h : ℕ) (column : List ℕ) → h ≤ 24 → take (length (by_hour b 24)) column ≡ map f (by_hour b 24)
    → take (length (by_hour b h)) column ≡ map f (by_hour b h)
column-to f b h column last e =
    sym (take-take (length (by_hour b h)) (length (by_hour b 24)) column (by_hour-rise b h 24 last))
    ∙ rw (e, map-take f (length (by_hour b h)) (by_hour b 24), by_hour-front b h 24 last)

column-hour : (f : ℕ → ℕ) (b : List ℕ) (h : ℕ) (column : List ℕ) → h < 24 → take (length (by_hour b 24)) column ≡ map f (by_hour b 24)
    → slice (length (by_hour b h)) (length (by_hour b (h + 1))) column ≡ map f (in_hour b (h + 1) (step_records b))
column-hour f b h column last e =
    rw (column-to f b (h + 1) column (omega arith) e, by_hour-more b h, map-append)
    (drop_at (map f (by_hour b h)) (map f (in_hour b (h + 1) (step_records b))) (length (by_hour b h)) (length-map (by_hour b h) f))

-- From `ends` at h − 1 up to `ends` at h, a column has the numbers of the steps of hour h
pub hour-column : (f : ℕ → ℕ) (b ends column : List ℕ) → ((h : ℕ) → h ≤ 24 → get_or ends h 0 ≡ length (by_hour b h))
    → take (length (by_hour b 24)) column ≡ map f (by_hour b 24) → (h : ℕ) → 1 ≤ h → h ≤ 24
    → slice (get_or ends (h - 1) 0) (get_or ends h 0) column ≡ map f (in_hour b h (step_records b))
hour-column f b ends column at e zero first last = absurd (omega arith)
hour-column f b ends column at e (suc h) first last =
    rw (sub-one, at h (omega arith), at (suc h) last) (rw add-one at (column-hour f b h column (omega arith) e))

pub hour-sides : (b ends records sides prices quantities : List ℕ) → StepColumns b ends records sides prices quantities
    → (h : ℕ) → 1 ≤ h → h ≤ 24 → slice (get_or ends (h - 1) 0) (get_or ends h 0) sides ≡ map (step_side_at b) (in_hour b h (step_records b))
hour-sides b ends records sides prices quantities c = hour-column (step_side_at b) b ends sides c.ends_at (step-sides-front c)

pub hour-prices : (b ends records sides prices quantities : List ℕ) → StepColumns b ends records sides prices quantities
    → (h : ℕ) → 1 ≤ h → h ≤ 24 → slice (get_or ends (h - 1) 0) (get_or ends h 0) prices ≡ map (step_price_at b) (in_hour b h (step_records b))
hour-prices b ends records sides prices quantities c = hour-column (step_price_at b) b ends prices c.ends_at (step-prices-front c)

pub hour-quantities : (b ends records sides prices quantities : List ℕ) → StepColumns b ends records sides prices quantities
    → (h : ℕ) → 1 ≤ h → h ≤ 24 → slice (get_or ends (h - 1) 0) (get_or ends h 0) quantities ≡ map (step_quantity_at b) (in_hour b h (step_records b))
hour-quantities b ends records sides prices quantities c = hour-column (step_quantity_at b) b ends quantities c.ends_at (step-quantities-front c)

-- THE RULES' STEPS OF AN HOUR
-- the side's byte names the rules' side
pub side_same : (s : ℕ) → side_from (side_of s) ≡ side_for s
side_same zero = refl
side_same (suc s) = rw (ne_eqb (suc s) 0 (λ e. omega arith))

step_same : (b : List ℕ) (k h : ℕ) → StepRecord b k → hour_byte b k ≡ h
    → step_from b k ≡ record { hour = h; side = side_for (step_side_at b k); price = step_price_at b k; quantity = step_quantity_at b k }
unfolding step_from step_at
step_same b k h r e = let n = step-as-read b k r in rw (e, n.side, n.price, n.quantity, side_same (side_byte b k))

steps-in : (b : List ℕ) (h : ℕ) (l : List ℕ) → Each (StepRecord b) l → steps_in h (steps_of (map (order_from b) l))
    ≡ steps_from h (map (step_side_at b) (in_hour b h l)) (map (step_price_at b) (in_hour b h l)) (map (step_quantity_at b) (in_hour b h l))
unfolding steps_of order_from step_from step_at in_hour steps_from
steps-in b h [] r = refl
steps-in b h (k ∷ l) r =
    by-eq
    (λ t. keep t (step_from b k) (steps_in h (steps_of (map (order_from b) l)))
    ≡ steps_from h (map (step_side_at b) (keep t k (in_hour b h l))) (map (step_price_at b) (keep t k (in_hour b h l)))
    (map (step_quantity_at b) (keep t k (in_hour b h l))))
    (hour_byte b k) h
    (λ e.
    ap (λ (s : Step). s ∷ steps_in h (steps_of (map (order_from b) l))) (step_same b k h r.0 e)
    ∙ ap (λ (m : List Step). record { hour = h; side = side_for (step_side_at b k); price = step_price_at b k; quantity = step_quantity_at b k } ∷ m) (steps-in b h l r.1))
    (λ e. steps-in b h l r.1)

-- The steps that the rules see in hour h, out of the columns of the steps of that hour
pub hour-steps : (b : List ℕ) → Accepted b → (h : ℕ)
    → steps_in h (day_from b).steps
    ≡ steps_from h (map (step_side_at b) (in_hour b h (step_records b))) (map (step_price_at b) (in_hour b h (step_records b)))
    (map (step_quantity_at b) (in_hour b h (step_records b)))
unfolding day_from day_of orders_of canonical
hour-steps b a h = rw (steps_all b a) (steps-in b h (step_order b) (step-records b a))

-- .. and so out of the book's columns
pub hour-from-columns : (b ends records sides prices quantities : List ℕ) → StepColumns b ends records sides prices quantities → Accepted b
    → (h : ℕ) → 1 ≤ h → h ≤ 24
    → steps_in h (day_from b).steps
    ≡ steps_from h (slice (get_or ends (h - 1) 0) (get_or ends h 0) sides) (slice (get_or ends (h - 1) 0) (get_or ends h 0) prices)
    (slice (get_or ends (h - 1) 0) (get_or ends h 0) quantities)
hour-from-columns b ends records sides prices quantities c a h first last =
    hour-steps b a h
    ∙ rw (
      hour-sides b ends records sides prices quantities c h first last,
      hour-prices b ends records sides prices quantities c h first last,
      hour-quantities b ends records sides prices quantities c h first last,
    )
