-- `exports::auction_families` meets its contract: the bytes that are written are those put. Assumes nothing.
use native.Mathlib.Omega.{arith}
use Rattle.text.proofs.TextLaws.{put-counts, put_front}
use borrow.Author.Rules.{rules}
use Rattle.exports.proofs.auction_families.Statement.{statement}
use Rattle.exports.proofs.auction_families.Tie as tie

families-requires : tie.Need-families-written-requires
families-requires c κs = search rules

array-share-prefix-bytes : tie.Need-slice_bounds-bytes-end
array-share-prefix-bytes c = (put-counts _ 0 _ _ _ c.families-written.ensures.0 c.families-written.ensures.1).0

slice-aggregate-put-where-room : tie.Need-slice_bounds-put_where_room-end
slice-aggregate-put-where-room c =
    (put-counts _ 0 _ _ _ c.families-written.ensures.0 c.families-written.ensures.1).1

put-where-room-requires : tie.Need-put_where_room-requires
put-where-room-requires c κs =
    let counts = put-counts _ 0 _ _ _ c.families-written.ensures.0 c.families-written.ensures.1 in
    omega (arith, counts.0, counts.1)

same_length : tie.Need-shape_of-out
same_length c = search rules

returns : tie.Need-returns
returns c =
    let same = put_front _ _ _ _ c.families-written.ensures.0 in
    let put = c.put_where_room.ensures in
    (rw same at put.0, rw same at put.1)

pub auction_families_spec : {M : Type 1} → statement M
auction_families_spec =
    tie.close
    (tie.spec
    families-requires
    array-share-prefix-bytes
    slice-aggregate-put-where-room
    put-where-room-requires
    same_length
    returns)
