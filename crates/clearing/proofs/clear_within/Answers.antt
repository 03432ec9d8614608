-- `clearing::clear_within` meets its contract: the columns are the book's, the tables are those of its day, the set found is the published one. Assumes nothing.
use native.Mathlib.Omega.{arith}
use mathlib.Core.Path.{◌≡◌, sym}
use Prim.Native.Nat.{◌≤◌}
use lib.ListN.{length, get_or}
use borrow.Author.Rules.{rules}
use Rattle.book.proofs.Accepted.{day-hours}
use Rattle.orders.proofs.HourLaws.{ends-fit}
use Rattle.orders.proofs.LinkLaws.{links-stand}
use Rattle.places.specs.Steps.{StepsSized}
use Rattle.setup.proofs.SetupLaws.{steps-held, blocks-held, parents-held, parents-of}
use Rattle.clearing.proofs.PublishLaws.{columns-steps}
use Rattle.clearing.proofs.StepSizes.{records-size, sides-size, prices-size, quantities-size}
use Rattle.clearing.proofs.PublishableLaws.{steps-sized, publishable}
use Rattle.clearing.proofs.clear_within.Goals as goal

pub prepare-prepared-requires : goal.prepare-prepared-requires
prepare-prepared-requires c =
    let h = c.requires.held in
    let t = c.requires.tables in
    let e = c.lent-columns.ensures in
    record {
      day = rw c.day_hours-day.ensures (day-hours _ h.accepted).1;
      steps = (
        e.ends.1,
        rw (e.sides, e.prices, e.quantities, e.ends.0)
            (steps-held _ _ _ _ _ _ h.steps_are (sides-size _ _ _ _ _ _ h.steps_are) (prices-size _ _ _ _ _ _ h.steps_are)
            (quantities-size _ _ _ _ _ _ h.steps_are)),
      );
      blocks = blocks-held _ _ _ _ _ _ _ h.blocks_are h.accepted;
      parents = parents-held _ _ h.accepted c.parents_of-parents.ensures;
      tables = (t.0, t.1, t.2);
      room = t.3;
    }

pub find-best-requires : goal.find-best-requires
find-best-requires c =
    let h = c.requires.held in
    let last : get_or c.args.steps.now.ends 24 0 ≤ 2048 = ends-fit _ _ _ _ _ _ h.steps_are 24 (omega arith) in
    let sides = sides-size _ _ _ _ _ _ h.steps_are in
    let prices = prices-size _ _ _ _ _ _ h.steps_are in
    let quantities = quantities-size _ _ _ _ _ _ h.steps_are in
    let e = c.lent-columns.ensures in (
      c.prepare-prepared.ensures.sized,
      search rules,
      (
        e.ends.1,
        rw (e.sides, e.prices, e.quantities, e.ends.0)
            (steps-sized _ h.accepted _ _ _ _ _ h.steps_are (omega arith) (omega arith) (omega arith)),
      ),
    )

pub publish-requires : goal.publish-requires
publish-requires c =
    let h = c.requires.held in
    let last : get_or c.args.steps.now.ends 24 0 ≤ 2048 = ends-fit _ _ _ _ _ _ h.steps_are 24 (omega arith) in
    let records = records-size _ _ _ _ _ _ h.steps_are in
    let sides = sides-size _ _ _ _ _ _ h.steps_are in
    let prices = prices-size _ _ _ _ _ _ h.steps_are in
    let quantities = quantities-size _ _ _ _ _ _ h.steps_are in
    let day = sym c.day_hours-day.ensures in
    let e = c.lent-columns.ensures in
    let lent = rw (← e.sides, ← e.prices, ← e.quantities, ← e.ends.0) at h.steps_are in
    let parents = parents-of _ _ _ h.accepted c.parents_of-parents.ensures in
    let ready = c.prepare-prepared.ensures.ready _ _ h.accepted (sym c.edition_of-edition.ensures) day lent h.blocks_are parents in
    let steps = columns-steps _ _ _ _ _ _ lent h.accepted in
    let is = c.find-best.ensures _ ready.p ready.rest steps ready.known ready.turning (links-stand _ h.accepted).numbers in
    let count = c.record_count-count.ensures in
    publishable _ h.accepted _ _ _ _ _ _ h.blocks_are is.2 day count (omega (arith, h.buffer, count)) (omega arith)
    (steps-sized _ h.accepted _ _ _ _ _ h.steps_are (omega arith) (omega arith) (omega arith))

pub returns : goal.returns
returns c =
    let h = c.requires.held in
    let day = sym c.day_hours-day.ensures in
    let e = c.lent-columns.ensures in
    let lent = rw (← e.sides, ← e.prices, ← e.quantities, ← e.ends.0) at h.steps_are in
    let parents = parents-of _ _ _ h.accepted c.parents_of-parents.ensures in
    let ready = c.prepare-prepared.ensures.ready _ _ h.accepted (sym c.edition_of-edition.ensures) day lent h.blocks_are parents in
    let steps = columns-steps _ _ _ _ _ _ lent h.accepted in
    let is = c.find-best.ensures _ ready.p ready.rest steps ready.known ready.turning (links-stand _ h.accepted).numbers in
    c.publish.ensures _ h.accepted day h.steps_are h.blocks_are is.0 is.2 c.record_count-count.ensures
