-- the hours before h are written
use Rattle.std.proofs.Common.{◌≡◌, length, take}
use Rattle.result.specs.Result.{hour_rows}
use Rattle.text.specs.Buffer.{splice}
use Rattle.result.proofs.put_hours.Given as goal

abbrev pub invariant-loop-h : goal.invariant-loop-h
invariant-loop-h l =
    (length l.res ≡ length l.initial.res) × (l.res ≡ splice l.initial.res 8 (hour_rows (take l.h l.fn.prices) (take l.h l.fn.quantities)))
