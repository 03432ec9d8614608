-- `clearing::clear_accepted` meets its contract: the columns are the book's, and the tables that are chosen have room for its blocks. Assumes nothing.
use native.Mathlib.Nat.{le_trans}
use Rattle.setup.proofs.SetupLaws.{blocks-held}
use Rattle.clearing.proofs.clear_accepted.Goals as goal

pub row_needed-requires : goal.row_needed-requires
row_needed-requires c = blocks-held _ _ _ _ _ _ _ c.blocks_of-blocks.ensures c.requires.0

pub clear_small-requires : goal.clear_small-requires
clear_small-requires c = (
  record { accepted = c.requires.0; steps_are = c.steps_of-steps.ensures; blocks_are = c.blocks_of-blocks.ensures; buffer = c.requires.1 },
  λ h first last. le_trans (c.row_needed.ensures.fits h first last) c.if-row_needed-le-SMALL_ROW.true,
)

pub clear_large-requires : goal.clear_large-requires
clear_large-requires c = (
  record { accepted = c.requires.0; steps_are = c.steps_of-steps.ensures; blocks_are = c.blocks_of-blocks.ensures; buffer = c.requires.1 },
  λ h first last. le_trans (c.row_needed.ensures.fits h first last) c.row_needed.ensures.narrow,
)
