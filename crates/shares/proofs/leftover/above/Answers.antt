-- `shares::leftover::above` meets its contract: the filter keeps those that are above. Assumes nothing.
use Rattle.std.proofs.Common.{◌≡◌, ◌∙◌, nat_lt, count_by, rules}
use Rattle.shares.proofs.PassLaws.{count-above}
use Rattle.shares.proofs.leftover.above.Goals as goal

pub returns : goal.returns
returns c =
    let e : c.count.result ≡ count_by (λ r. nat_lt c.args.x r) c.args.rests.now = search rules in
    e ∙ count-above c.args.x c.args.rests.now
