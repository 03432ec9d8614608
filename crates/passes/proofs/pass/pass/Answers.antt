-- `passes::pass::pass` meets its contract: all blocks are explored from the root. Assumes nothing.
use Rattle.std.proofs.Common.{arith}
use Rattle.passes.proofs.PassLaws.{root-fits, start-held, pass-from}
use Rattle.passes.proofs.pass.pass.Goals as goal

pub explore-requires : goal.explore-requires
explore-requires c =
    let p = c.requires in
    (p.0.0, p.0.1, p.0.2, omega arith, root-fits _, start-held c.start_at.ensures p.1.1)

pub returns : goal.returns
returns c = pass-from c.start_at.ensures c.explore.ensures.kept c.explore.ensures.explored
