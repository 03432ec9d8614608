use Rattle.std.proofs.Common.{◌≡◌, length, take}
use Rattle.rules.specs.Outcome.{for_hours}
use Rattle.result.specs.Result.{price_in}
use Rattle.gains.proofs.prices_in.Given as goal

abbrev pub invariant-loop-h : goal.invariant-loop-h
invariant-loop-h l = (length l.prices ≡ 24) × (take l.h l.prices ≡ for_hours l.h (price_in l.res))
