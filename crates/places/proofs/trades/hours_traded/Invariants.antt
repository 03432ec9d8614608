-- what is traded in the hours before h
use Rattle.places.specs.Steps.{steps_at}
use Rattle.places.proofs.TradeLaws.{TradedTo}
use Rattle.places.proofs.trades.hours_traded.Given as goal

abbrev pub invariant-loop-h : goal.invariant-loop-h
invariant-loop-h l =
    TradedTo (steps_at l.steps.ends.now l.steps.sides.now l.steps.prices.now l.steps.quantities.now) l.sales l.buys l.middles l.h l.traded
