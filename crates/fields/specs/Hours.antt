-- THE HOURS OF A BLOCK ON ITS DAY (document 02, P2). Definitions only. Assumes nothing.
use Rattle.std.specs.Prelude.{ℕ, ◌-◌, cond}
use Rattle.rules.specs.Hour.{when}
use Rattle.rules.specs.Day.{change_hour, is_counted, day_sum}
use Rattle.records.specs.Records.{holds_hour}

-- How many a block's hours x are on a day of so many hours, each as often as it counts
unfoldable pub counted_hours : ℕ → ℕ → ℕ
counted_hours hours x = day_sum hours (λ h. when (holds_hour x h) 1)

-- What hour 3 is in a block's hours: 2 to the power 2
abbrev pub change_bit : ℕ
change_bit = 4

-- A block's hours without the one that does not count on a day of so many hours
unfoldable pub running_hours : ℕ → ℕ → ℕ
running_hours hours x = cond (is_counted hours change_hour) x (x - when (holds_hour x change_hour) change_bit)
