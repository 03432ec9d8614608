-- `visit` and `visit_children` meet their contracts; what is left falls from call to call: twice the blocks left, and one more for a visit. Assumes nothing.
use mathlib.Core.Path.{sym, ◌∙◌}
use native.Mathlib.Omega.{arith}
use Rattle.families.proofs.VisitLaws.{
  visit-is,
  children-none,
  children-child,
  children-other,
  visit-part-fits,
  visit-sum-fits,
  later-fits,
  child_fits,
  child-sum-fits,
}
use borrow.Author.Rules.{rules}
use Prim.Native.Nat.{ℕ, ◌+◌, ◌*◌, ◌<◌}
use borrow.Fn.Kinds.{In}
use borrow.Fn.PlainCycle.{Measures, is, falls, and}
use Rattle.families.proofs.visit.visit.Reads as visit
use Rattle.families.proofs.visit.visit.Kinds as visit-kinds
use Rattle.families.proofs.visit.+visit_visit_children.Lts-visit as visit-lts
use Rattle.families.proofs.visit.visit_children.Reads as visit-children
use Rattle.families.proofs.visit.visit_children.Kinds as visit-children-kinds
use Rattle.families.proofs.visit.+visit_visit_children.Lts-visit_children as visit-children-lts
use Rattle.families.proofs.visit.+visit_visit_children.{statement}
use Rattle.families.proofs.visit.+visit_visit_children.Tie.{close}

abbrev μ-visit : Measures 2 visit-kinds.ps ℕ
μ-visit κs a = 2 * a.1.1.1.0 + 1

abbrev μ-visit-children : Measures 2 visit-children-kinds.ps ℕ
μ-visit-children κs a = 2 * a.1.1.1.1.0

abbrev visit-at : ℕ → In 2 visit-kinds.ps
visit-at t = and 2 visit-kinds.ps (is 2 visit-kinds.ps μ-visit t) visit.Pre

abbrev visit-below : ℕ → In 2 visit-kinds.ps
visit-below t = and 2 visit-kinds.ps (falls 2 visit-kinds.ps ◌<◌ μ-visit t) visit.Pre

abbrev visit-children-at : ℕ → In 2 visit-children-kinds.ps
visit-children-at t =
    and
    2
    visit-children-kinds.ps
    (is 2 visit-children-kinds.ps μ-visit-children t)
    visit-children.Pre

abbrev visit-children-below : ℕ → In 2 visit-children-kinds.ps
visit-children-below t =
    and
    2
    visit-children-kinds.ps
    (falls 2 visit-children-kinds.ps ◌<◌ μ-visit-children t)
    visit-children.Pre

abbrev claims-visit : ℕ → visit-lts.Claims
claims-visit t = (visit-children-below t, visit-children.Post)

abbrev claims-visit-children : ℕ → visit-children-lts.Claims
claims-visit-children t = (visit-children-below t, visit-children.Post, visit-below t, visit.Post)

visit-mul-result : (t : ℕ) → visit-lts.Need-offset_bounds-gains-i (claims-visit t) (visit-at t) visit.Post
visit-mul-result t c = search rules

visit-shared-slice-read-result : (t : ℕ) → visit-lts.Need-bounds-gains-i (claims-visit t) (visit-at t) visit.Post
visit-shared-slice-read-result t c = search rules

visit-add-visit-children : (t : ℕ) → visit-lts.Need-overflow_add-i (claims-visit t) (visit-at t) visit.Post
visit-add-visit-children t c = search rules

visit-visit-children-requires : (t : ℕ) → visit-lts.Need-visit_children-requires (claims-visit t) (visit-at t) visit.Post
visit-visit-children-requires t c κs =
    let start = c in
    let columns = start.requires.1.0 in
    (omega (arith, start.requires.0), ((columns.0, columns.1, omega arith), visit-part-fits _ _ _ _ _ start.requires.1.1))

visit-add-result : (t : ℕ) → visit-lts.Need-overflow_add-result (claims-visit t) (visit-at t) visit.Post
visit-add-result t c =
    let start = c in
    record { fits = visit-sum-fits _ _ _ start.args.left start.args.i _ start.requires.1.1 c.visit_children.ensures }

visit-returns : (t : ℕ) → visit-lts.Need-returns (claims-visit t) (visit-at t) visit.Post
visit-returns t c =
    let start = c in
    rw c.visit_children.ensures (sym (visit-is _ _ start.args.left start.args.i))

visit-children-returns : (t : ℕ) → visit-children-lts.Need-returns-then-left-eq0 (claims-visit-children t) (visit-children-at t) visit-children.Post
visit-children-returns t c =
    sym (children-none _ _ _ _ _ c.if-left-eq0.true)

visit-children-add-visit-children : (t : ℕ) → visit-children-lts.Need-overflow_add-j (claims-visit-children t) (visit-children-at t) visit-children.Post
visit-children-add-visit-children t c = search rules

visit-children-sub-visit-children : (t : ℕ) → visit-children-lts.Need-overflow_sub-left (claims-visit-children t) (visit-children-at t) visit-children.Post
visit-children-sub-visit-children t c = search rules

visit-children-visit-children-requires : (t : ℕ) → visit-children-lts.Need-visit_children-later-requires (claims-visit-children t) (visit-children-at t) visit-children.Post
visit-children-visit-children-requires t c κs =
    let start = c in
    let some : 0 < start.args.left = omega (arith, c.if-left-eq0.false) in
    let columns = start.requires.1.0 in (
      omega (arith, start.requires.0),
      ((columns.0, omega (arith, columns.1), omega (arith, columns.2)), later-fits _ _ _ _ _ _ some start.requires.1.1),
    )

visit-children-mul-if2 : (t : ℕ) → visit-children-lts.Need-offset_bounds-parents-j (claims-visit-children t) (visit-children-at t) visit-children.Post
visit-children-mul-if2 t c = search rules

visit-children-shared-slice-read-if2 : (t : ℕ) → visit-children-lts.Need-bounds-parents-j (claims-visit-children t) (visit-children-at t) visit-children.Post
visit-children-shared-slice-read-if2 t c = search rules

visit-children-cast-if2 : (t : ℕ) → visit-children-lts.Need-overflow_cast-parents (claims-visit-children t) (visit-children-at t) visit-children.Post
visit-children-cast-if2 t c =
    omega (arith, c.shared_slice_known-1.given c.args.j)

visit-children-add-if2 : (t : ℕ) → visit-children-lts.Need-overflow_add-i (claims-visit-children t) (visit-children-at t) visit-children.Post
visit-children-add-if2 t c = search rules

visit-children-sub-visit : (t : ℕ) → visit-children-lts.Need-overflow_sub-left-then-parents-j (claims-visit-children t) (visit-children-at t) visit-children.Post
visit-children-sub-visit t c = search rules

visit-children-visit-requires : (t : ℕ) → visit-children-lts.Need-visit-requires (claims-visit-children t) (visit-children-at t) visit-children.Post
visit-children-visit-requires t c κs =
    let start = c in
    let some : 0 < start.args.left = omega (arith, c.if-left-eq0.false) in
    let columns = start.requires.1.0 in (
      omega (arith, start.requires.0),
      ((columns.0, omega (arith, columns.1)), child_fits _ _ _ _ _ _ some c.if-parents-j.true start.requires.1.1),
    )

visit-children-add-result : (t : ℕ) → visit-children-lts.Need-overflow_add-result (claims-visit-children t) (visit-children-at t) visit-children.Post
visit-children-add-result t c =
    let start = c in
    let some : 0 < start.args.left = omega (arith, c.if-left-eq0.false) in
    let later = c.visit_children-later.ensures in
    record { fits = child-sum-fits _ _ _ _ _ _ _ _ some c.if-parents-j.true start.requires.1.1 c.visit.ensures later }

visit-children-returns-2 : (t : ℕ) → visit-children-lts.Need-returns-then-parents-j (claims-visit-children t) (visit-children-at t) visit-children.Post
visit-children-returns-2 t c =
    let start = c in
    let some : 0 < start.args.left = omega (arith, c.if-left-eq0.false) in
    rw (c.visit.ensures, c.visit_children-later.ensures) (sym (children-child _ _ _ _ _ some c.if-parents-j.true))

visit-children-returns-3 : (t : ℕ) → visit-children-lts.Need-returns (claims-visit-children t) (visit-children-at t) visit-children.Post
visit-children-returns-3 t c =
    let start = c in
    let some : 0 < start.args.left = omega (arith, c.if-left-eq0.false) in
    c.visit_children-later.ensures ∙ sym (children-other _ _ _ _ _ some c.if-parents-j.false)

pub +visit_visit_children_spec : {M : Type 1} → statement M
+visit_visit_children_spec = close μ-visit μ-visit-children (λ t. visit-lts.spec (claims-visit t)
    (visit-at t)
    visit.Post
    (visit-mul-result t)
    (visit-shared-slice-read-result t)
    (visit-add-visit-children t)
    (visit-visit-children-requires t)
    (visit-add-result t)
    (visit-returns t))
    λ t. visit-children-lts.spec
    (claims-visit-children t)
    (visit-children-at t)
    visit-children.Post
    (visit-children-returns t)
    (visit-children-add-visit-children t)
    (visit-children-sub-visit-children t)
    (visit-children-visit-children-requires t)
    (visit-children-mul-if2 t)
    (visit-children-shared-slice-read-if2 t)
    (visit-children-cast-if2 t)
    (visit-children-add-if2 t)
    (visit-children-sub-visit t)
    (visit-children-visit-requires t)
    (visit-children-add-result t)
    (visit-children-returns-2 t)
    (visit-children-returns-3 t)
