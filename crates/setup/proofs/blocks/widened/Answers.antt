-- `setup::widened` meets its contract: the six columns stand in front, and nothing behind them. Assumes nothing.
use Rattle.std.proofs.Common.{rules}
use Rattle.setup.proofs.SetupTwinLaws.{widened-front}
use Rattle.setup.proofs.blocks.widened.Goals as goal

pub returns : goal.returns
returns c = widened-front _ _ (search rules) c.copy_from_slice.ensures.after
