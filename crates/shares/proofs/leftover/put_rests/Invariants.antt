-- the first i places have their remainders
use Rattle.std.proofs.Common.{◌*◌, ◌%◌}
use Rattle.shares.specs.Shares.{holding}
use Rattle.shares.proofs.PassLaws.{Filled}
use Rattle.shares.proofs.leftover.put_rests.Given as goal

abbrev pub invariant-loop-i : goal.invariant-loop-i
invariant-loop-i l =
    Filled (λ s. holding l.buys l.price s * l.portion.amount % l.portion.held) l.steps.sides.now l.steps.prices.now l.steps.quantities.now l.rests l.i
