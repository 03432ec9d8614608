-- `setup::row_needed` meets its contract: no hour's blocks trade more than the largest does. Assumes nothing.
use Rattle.std.proofs.Common.{◌-◌, arith}
use Rattle.setup.proofs.row_needed.Goals as goal

pub returns : goal.returns
returns c =
    let traded = c.traded_by_hour-most.ensures in
    let most = c.largest.ensures in
    record { fits = λ h first last. omega (arith, traded.is h first last, most.0 (h - 1)); narrow = omega (arith, most.1 _ traded.small) }
