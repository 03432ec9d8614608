-- `post` meets its contract. Assumes nothing.
use Rattle.std.proofs.Common.{arith}
use Rattle.orders.specs.Columns.{side_for}
use Rattle.accounts.proofs.PostingLaws.{column-few, room-first, room-second, room-third, posted}
use Rattle.accounts.proofs.post.Goals as goal

pub add-requires : goal.add-requires
add-requires c = (
  record { size = c.requires.0.size; free = room-first c.args.accounts.now c.args.traded c.args.cash c.requires.0.free },
  column-few (side_for c.args.side) 0 1 _ c.by_side.ensures (omega arith) (omega arith),
  c.requires.1,
)

pub add-requires-2 : goal.add-requires-2
add-requires-2 c =
    let first = c.add.ensures in (
      record { size = omega (arith, first.size, c.requires.0.size); free = room-second c.args.accounts.now c.args.traded c.args.cash c.requires.0.free _ _ _ first },
      column-few (side_for c.args.side) 2 3 _ c.by_side-2.ensures (omega arith) (omega arith),
      c.requires.1,
    )

pub add-requires-3 : goal.add-requires-3
add-requires-3 c =
    let first = c.add.ensures in
    let second = c.add-2.ensures in (
      record { size = omega (arith, first.size, second.size, c.requires.0.size); free = room-third c.args.accounts.now c.args.traded c.args.cash c.requires.0.free _ _ _ first _ _ second },
      omega arith,
      c.requires.1,
    )

pub returns : goal.returns
returns c =
    posted c.args.accounts.now c.args.traded c.args.cash c.requires.0.free _ _ _ c.add.ensures _ _ c.add-2.ensures _ _ c.by_side.ensures c.by_side-2.ensures c.add-3.ensures
