-- `range::price_of` meets its contract: the bias is an N of 0. Assumes nothing.
use mathlib.Core.Path.{refl}
use Rattle.range.proofs.RangeLaws.{answer-price}
use Rattle.range.proofs.price_of.Goals as goal

pub returns-in-Some : goal.returns-in-Some
returns-in-Some c = answer-price _ _ _ _ c.in-Some.ensures

pub returns-in-None : goal.returns-in-None
returns-in-None c = answer-price _ _ _ _ c.in-None.ensures
