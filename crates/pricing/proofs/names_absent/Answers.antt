-- `pricing::names_absent` meets its contract. Assumes nothing.
use mathlib.Core.Path.{sym}
use native.Mathlib.Omega.{arith}
use Rattle.pricing.proofs.CallLaws.{absent-named, bits-enough}
use Rattle.pricing.proofs.names_absent.Goals as goal

pub returns-then-count-lt-SET_BITS : goal.returns-then-count-lt-SET_BITS
returns-then-count-lt-SET_BITS c = λ k. absent-named c.args.set c.args.count

pub returns-else-count-lt-SET_BITS : goal.returns-else-count-lt-SET_BITS
returns-else-count-lt-SET_BITS c = λ k. sym (bits-enough c.args.set c.args.count (omega arith) c.if-count-lt-SET_BITS.false)
