use Rattle.chains.specs.Passes.{to_follow}
use Rattle.chains.proofs.Surveys.{Walked}
use Rattle.chains.proofs.walks.survey_of.Given as goal

abbrev pub invariant-loop-i : goal.invariant-loop-i
invariant-loop-i l = Walked l.book l.chain (to_follow l.i-iterator) l.last l.broken l.outside l.length
