-- `put_root` meets its contract: the family's line, or none. Assumes nothing.
use mathlib.Core.Path.{◌∙◌}
use native.Mathlib.Omega.{arith}
use Rattle.families.proofs.LineLaws.{put-none, line-root, line-none, gain-is}
use Rattle.families.proofs.lines.put_root.Goals as goal

pub visit-gain-requires : goal.visit-gain-requires
visit-gain-requires c =
    let held = c.requires.columns.0 in
    let inside = c.requires.columns.1 in
    record { columns = (held.parents_size, omega (arith, inside)); fits = rw (gain-is _ _ c.args.i) (held.gains_fit c.args.i inside) }

pub put_family-requires : goal.put_family-requires
put_family-requires c =
    let gain = c.visit-gain.ensures ∙ gain-is _ _ c.args.i in
    rw (c.number_of.ensures, gain) (rw (line-root _ _ _ _ c.args.i c.if-parents-i-eq0.true) at c.requires.room)

pub returns-then-parents-i-eq0 : goal.returns-then-parents-i-eq0
returns-then-parents-i-eq0 c =
    let gain = c.visit-gain.ensures ∙ gain-is _ _ c.args.i in
    rw (line-root _ _ _ _ c.args.i c.if-parents-i-eq0.true)
    (rw (c.number_of.ensures, gain) at c.put_family.ensures)

pub returns : goal.returns
returns c = rw (line-none _ _ _ _ c.args.i c.if-parents-i-eq0.false) (put-none _ _)
