-- `setup::may_stand_in` meets its contract: by the tests of the parents and of the mark. Assumes nothing.
use Rattle.setup.proofs.SetupTwinLaws.{stands-in}
use Rattle.setup.proofs.twins.may_stand_in.Goals as goal

pub returns : goal.returns
returns c =
    let s = c in
    stands-in _ s.args.marks.now _ _ s.requires.marks.1
