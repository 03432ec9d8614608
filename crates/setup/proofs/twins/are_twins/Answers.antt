-- `setup::are_twins` meets its contract: three equalities make twins. Assumes nothing.
use Rattle.setup.proofs.SetupTwinLaws.{twins-from}
use Rattle.setup.proofs.twins.are_twins.Goals as goal

pub returns : goal.returns
returns c = twins-from _ _ _
