-- `clearing::publish::put_hour` meets its contract: the part is an hour's columns, and what is put into it stands there. Assumes nothing.
use Rattle.std.proofs.Common.{◌+◌, ◌∙◌, sym, get_or, ap, length}
use borrow.Rule.Slice.PartMut.{mid_len}
use Rattle.places.proofs.StepLaws.{small-part, hour-part}
use Rattle.clearing.proofs.HoursLaws.{hour-put}
use Rattle.clearing.proofs.publish.put_hour.Goals as goal

pub hour-requires : goal.hour-requires
hour-requires c =
    let part = hour-part _ _ _ _ c.args.h c.requires.1 c.requires.0 in
    record { an_hour = c.requires.0; ordered = part.ordered; fits = part.fit }

pub fill_hour-requires : goal.fill_hour-requires
fill_hour-requires c =
    let part = hour-part _ _ _ _ c.args.h c.requires.1 c.requires.0 in
    let e = c.hour.ensures in
    let from = get_or c.args.steps.now.ends c.args.h 0 in
    let to = get_or c.args.steps.now.ends (c.args.h + 1) 0 in
    let long = ap length e.sides ∙ mid_len from to _ part.in_sides in (
      long ∙ sym (mid_len from to _ c.requires.2),
      c.requires.3,
      c.requires.4,
      c.requires.5,
      rw e.prices (small-part _ from to _ part.ordered part.prices_fit),
      rw e.quantities (small-part _ from to _ part.ordered part.quantities_fit),
      long ∙ sym (mid_len from to _ c.requires.6),
    )

pub returns : goal.returns
returns c =
    let part = hour-part _ _ _ _ c.args.h c.requires.1 c.requires.0 in
    let e = c.hour.ensures in
    let from = get_or c.args.steps.now.ends c.args.h 0 in
    let to = get_or c.args.steps.now.ends (c.args.h + 1) 0 in
    hour-put _ _ _ from to _ _ _ _ _ _ _ part.ordered c.requires.2 (c.fill_hour.auto.out ∙ mid_len from to _ c.requires.2)
    (rw (e.sides, e.prices, e.quantities) at c.fill_hour.ensures)
