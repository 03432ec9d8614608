-- `rivals::replay::with_next` meets its contract: the block is taken or left out as in the set. Assumes nothing.
use mathlib.Core.Path.{sym, ◌∙◌}
use Rattle.rivals.proofs.ReplayLaws.{replays-taken, replays-left}
use Rattle.rivals.proofs.replay.with_next.Goals as goal

pub take-requires : goal.take-requires
take-requires c = (c.requires.0, c.requires.1, c.requires.2.fits)

pub returns-then-takes : goal.returns-then-takes
returns-then-takes c = replays-taken c.requires.2 _ (sym c.takes.ensures ∙ c.if-takes.true) c.take.ensures

pub leave-requires : goal.leave-requires
leave-requires c = (c.requires.0, c.requires.1, c.requires.2.fits)

pub returns : goal.returns
returns c = replays-left c.requires.2 _ (sym c.takes.ensures ∙ c.if-takes.false) c.leave.ensures
