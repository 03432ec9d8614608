-- `put_report` meets its contract: the title, and behind it the lines of the families. Assumes nothing.
use native.Mathlib.Omega.{arith}
use Rattle.text.specs.Text.{text}
use Rattle.family_sheet.proofs.FamilySheetLaws.{records-fit, lent, report-held, room-title, room-lines, report-put}
use borrow.Author.Rules.{rules}
use Rattle.family_sheet.proofs.put_report.Statement.{statement}
use Rattle.family_sheet.proofs.put_report.Tie as tie

blocks-of-requires : tie.Need-blocks_of-blocks-requires
blocks-of-requires c κs = search rules

parents-of-requires : tie.Need-parents_of-parents-requires
parents-of-requires c κs = search rules

gains-of-requires : tie.Need-gains_of-gains-requires
gains-of-requires c κs = search rules

put-text-requires : tie.Need-put_text-lines_at-requires
unfolding text
put-text-requires c κs =
    let gains = c in
    let parents = gains in
    let blocks = parents in
    let start = blocks in
    room-title _ _ start.requires.0.0 start.requires.0.1 _ _ _ _ _ _ _ _ blocks.blocks_of-blocks.ensures parents.parents_of-parents.ensures gains.gains_of-gains.ensures
    (λ i. omega (arith, blocks.shared_slice_known-1.given i)) _ start.requires.1

array-share-prefix-records : tie.Need-slice_bounds-records-end
array-share-prefix-records c =
    let gains = c in
    let parents = gains in
    let blocks = parents in
    let start = blocks in
    records-fit _ _ start.requires.0.0 start.requires.0.1 _ _ _ _ _ _ _ _ blocks.blocks_of-blocks.ensures parents.parents_of-parents.ensures gains.gains_of-gains.ensures

slice-aggregate-put-families : tie.Need-slice_bounds-put_families-end
slice-aggregate-put-families c =
    let gains = c in
    let parents = gains in
    let blocks = parents in
    let start = blocks in
    (lent _ _ start.requires.0.0 start.requires.0.1 _ _ _ _ _ _ _ _ blocks.blocks_of-blocks.ensures parents.parents_of-parents.ensures gains.gains_of-gains.ensures).0

array-share-prefix-parents : tie.Need-slice_bounds-parents-end
array-share-prefix-parents c = search rules

slice-aggregate-put-families-2 : tie.Need-slice_bounds-put_families-end-2
slice-aggregate-put-families-2 c =
    let gains = c in
    let parents = gains in
    let blocks = parents in
    let start = blocks in
    (lent _ _ start.requires.0.0 start.requires.0.1 _ _ _ _ _ _ _ _ blocks.blocks_of-blocks.ensures parents.parents_of-parents.ensures gains.gains_of-gains.ensures).1

array-share-prefix-gains : tie.Need-slice_bounds-gains-end
array-share-prefix-gains c = search rules

slice-aggregate-put-families-3 : tie.Need-slice_bounds-put_families-end-3
slice-aggregate-put-families-3 c =
    let gains = c in
    let parents = gains in
    let blocks = parents in
    let start = blocks in
    (lent _ _ start.requires.0.0 start.requires.0.1 _ _ _ _ _ _ _ _ blocks.blocks_of-blocks.ensures parents.parents_of-parents.ensures gains.gains_of-gains.ensures).2

put-families-requires : tie.Need-put_families-requires
unfolding text
put-families-requires c κs =
    let gains = c in
    let parents = gains in
    let blocks = parents in
    let start = blocks in
    let title = c.put_text-lines_at.ensures in (
      report-held _ _ start.requires.0.0 start.requires.0.1 _ _ _ _ _ _ _ _ blocks.blocks_of-blocks.ensures parents.parents_of-parents.ensures gains.gains_of-gains.ensures,
      room-lines _ _ start.requires.0.0 start.requires.0.1 _ _ _ _ _ _ _ _ blocks.blocks_of-blocks.ensures parents.parents_of-parents.ensures gains.gains_of-gains.ensures
          (λ i. omega (arith, blocks.shared_slice_known-1.given i)) _ start.requires.1 _ _ title,
    )

same_length : tie.Need-shape_of-out
same_length c = search rules

returns : tie.Need-returns
unfolding text
returns c =
    let gains = c in
    let parents = gains in
    let blocks = parents in
    let start = blocks in
    let title = c.put_text-lines_at.ensures in
    report-put _ _ start.requires.0.0 start.requires.0.1 _ _ _ _ _ _ _ _ blocks.blocks_of-blocks.ensures parents.parents_of-parents.ensures gains.gains_of-gains.ensures
    (λ i. omega (arith, blocks.shared_slice_known-1.given i)) _ start.requires.1 _ _ title _ _ c.put_families.ensures

pub put_report_spec : {M : Type 1} → statement M
put_report_spec =
    tie.close
    (tie.spec
    blocks-of-requires
    parents-of-requires
    gains-of-requires
    put-text-requires
    array-share-prefix-records
    slice-aggregate-put-families
    array-share-prefix-parents
    slice-aggregate-put-families-2
    array-share-prefix-gains
    slice-aggregate-put-families-3
    put-families-requires
    same_length
    returns)
