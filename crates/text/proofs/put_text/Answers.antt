-- `put_text` meets its contract: the bytes are put. Assumes nothing.
use Rattle.std.proofs.Common.{refl, arith}
use Rattle.text.proofs.BufferLaws.{splice-part}
use Rattle.text.proofs.put_text.Goals as goal

pub returns : goal.returns
returns c = record { written = splice-part _ _ _ _ _ (omega arith) c.copy_from_slice.ensures.after; ends = refl }
