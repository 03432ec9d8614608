-- the hours before h are done
use Rattle.places.specs.Hours.{of_hour}
use Rattle.places.specs.Steps.{steps_at}
use Rattle.clearing.specs.Publish.{HoursDone, sales_at, buys_at}
use Rattle.clearing.proofs.publish.fill_hours.Given as goal

abbrev pub invariant-loop-h : goal.invariant-loop-h
invariant-loop-h l =
    HoursDone l.often l.steps.ends (steps_at l.steps.ends l.steps.sides l.steps.prices l.steps.quantities)
    (sales_at l.blocks.sides.now l.blocks.hours.now l.blocks.quantities.now l.set)
    (buys_at l.blocks.sides.now l.blocks.hours.now l.blocks.quantities.now l.set) (of_hour l.middles) l.h l.values l.value l.cost
