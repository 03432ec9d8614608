-- THE COLUMNS IN AN ORDER: the six that are copied, number after number; the parents, twins and ranks, place after place; the rows, number after number; and that
-- all together they are the blocks in that order. Assumes nothing.
use Prim.Native.Nat.{ℕ, ◌+◌, ◌-◌, ◌*◌, ◌/◌, ◌%◌, ◌^◌, ◌≤◌, ◌<◌}
use mathlib.Core.Path.{◌≡◌, refl, sym, ap, ◌∙◌}
use mathlib.Core.List.{List}
use native.Mathlib.Omega.{arith}
use native.Mathlib.Decide.{dec_le}
use native.Mathlib.Nat.{lt_of_not-le}
use lib.ListN.{length, get_or, replicate}
use Rattle.rules.proofs.Ranks.{rank_of, rank-small}
use Rattle.book.specs.Bounds.{most_blocks}
use Rattle.orders.proofs.ColumnLaws.{zeros}
use Rattle.places.specs.Layout.{hour_places, most_added, parent_column, ahead_column, behind_column, rank_column, rows_column, block_list_size}
use Rattle.places.specs.Blocks.{parent_at, ahead_at, behind_at, rank_at, row_quantity, BlocksSized}
use Rattle.order.specs.Order.{Words, placed_name, IsOrderOf, Reordered}
use Rattle.order.specs.Written.{earlier_name, column_number, ColumnsIn, LinksIn, RowsIn}
use Rattle.order.proofs.NameLaws.{earlier-le, earlier-is}

-- THE SIX COLUMNS, number after number
module _ (count : ℕ) (order blocks : List ℕ) where
  pub record ColumnsTo (k : ℕ) (r : List ℕ) : Type 0 where
    pub inside : k ≤ parent_column
    pub size : length r ≡ block_list_size
    pub done : (i : ℕ) → i < k → i % most_blocks < count → get_or r i 0 ≡ column_number order blocks i
    pub empty : (i : ℕ) → i < k → count ≤ i % most_blocks → get_or r i 0 ≡ 0
    pub none : (i : ℕ) → k ≤ i → get_or r i 0 ≡ 0

  pub columns-start : ColumnsTo 0 (replicate block_list_size 0)
  columns-start = record {
    inside = omega arith;
    size = refl;
    done = λ i a. absurd (omega arith);
    empty = λ i a. absurd (omega arith);
    none = λ i a. zeros block_list_size i;
  }

-- THE PARENTS, TWINS AND RANKS, place after place
module _ (count : ℕ) (order place blocks before : List ℕ) where
  pub record LinksTo (j : ℕ) (r : List ℕ) : Type 0 where
    pub inside : j ≤ count
    pub size : length r ≡ block_list_size
    pub columns : (k : ℕ) → k < parent_column → get_or r k 0 ≡ get_or before k 0
    pub rows : (k : ℕ) → rows_column ≤ k → get_or r k 0 ≡ get_or before k 0
    pub parent_is : (i : ℕ) → i < j → parent_at r i ≡ placed_name place (parent_at blocks (get_or order i 0))
    pub ahead_is : (i : ℕ) → i < j → ahead_at r i ≡ earlier_name place count i (ahead_at blocks (get_or order i 0))
    pub behind_is : (i : ℕ) → i < j → behind_at r i ≡ earlier_name place count i (behind_at blocks (get_or order i 0))
    pub rank_is : (i : ℕ) → i < j → rank_at r i ≡ rank_of (get_or order i 0)
    pub none : (i : ℕ) → j ≤ i → i < most_blocks → (parent_at r i ≡ 0) × (ahead_at r i ≡ 0) × (behind_at r i ≡ 0) × (rank_at r i ≡ 0)

-- THE ROWS, number after number
module _ (count : ℕ) (order blocks before : List ℕ) where
  -- what stands at place k of the rows
  abbrev row_number : ℕ → ℕ
  row_number k = get_or blocks (rows_column + hour_places * get_or order (k / hour_places) 0 + k % hour_places) 0

  pub record RowsTo (k : ℕ) (r : List ℕ) : Type 0 where
    pub inside : k ≤ hour_places * count
    pub size : length r ≡ block_list_size
    pub same : (i : ℕ) → i < rows_column → get_or r i 0 ≡ get_or before i 0
    pub done : (i : ℕ) → i < k → get_or r (rows_column + i) 0 ≡ row_number i
    pub rest : (i : ℕ) → rows_column + k ≤ i → get_or r i 0 ≡ get_or before i 0

  pub rows_all : (k : ℕ) (r : List ℕ) → RowsTo k r → hour_places * count ≤ k → RowsIn count order blocks before r
  rows_all k r d all = record {
    size = d.size;
    same = d.same;
    row_is = λ j h a from to.
        let place : rows_column + hour_places * j + (h - 1) ≡ rows_column + (hour_places * j + (h - 1)) = omega arith in
        let block : (hour_places * j + (h - 1)) / hour_places ≡ j = omega arith in
        let hour : (hour_places * j + (h - 1)) % hour_places ≡ h - 1 = omega arith in
        let t = d.done (hour_places * j + (h - 1)) (omega arith) in
        rw place (rw (block, hour) at t);
    rest = λ i a. d.rest i (omega (arith, d.inside));
  }

-- ALL TOGETHER
module _ (blocks : List ℕ) (count : ℕ) (order place columns linked r : List ℕ) (sized : BlocksSized blocks) (few : count ≤ most_blocks)
    (of : IsOrderOf blocks count order place) (copied : ColumnsIn count order blocks columns) (links : LinksIn count order place blocks columns linked)
    (rows : RowsIn count order blocks linked r) where
  -- column number n of the six
  column-is : (n j : ℕ) → most_blocks * n < parent_column → j < count → get_or r (most_blocks * n + j) 0 ≡ get_or blocks (most_blocks * n + get_or order j 0) 0
  column-is n j among k =
      let place : (most_blocks * n + j) % most_blocks ≡ j = omega arith in
      let begin : most_blocks * n + j - j ≡ most_blocks * n = omega arith in
      let within : most_blocks * n + j < parent_column = omega arith in
      let is = copied.columns (most_blocks * n + j) within (rw place k) in
      rows.same (most_blocks * n + j) (omega arith) ∙ links.columns (most_blocks * n + j) within ∙ (rw (place, begin) at is)

  -- the parent and the twins at place j
  parent_is : (j : ℕ) → j < most_blocks → parent_at r j ≡ parent_at linked j
  parent_is j k = rows.same (parent_column + j) (omega arith)

  ahead-is : (j : ℕ) → j < most_blocks → ahead_at r j ≡ ahead_at linked j
  ahead-is j k = rows.same (ahead_column + j) (omega arith)

  behind-is : (j : ℕ) → j < most_blocks → behind_at r j ≡ behind_at linked j
  behind-is j k = rows.same (behind_column + j) (omega arith)

  rank_is : (j : ℕ) → j < most_blocks → rank_at r j ≡ rank_at linked j
  rank_is j k = rows.same (rank_column + j) (omega arith)

  -- no number of a row is too large
  row_fits : (i h : ℕ) → row_quantity r i h ≤ most_added
  row_fits i h = elim (dec_le (hour_places * count) (hour_places * i + (h - 1))) [
    | yes out ↦ let none = rows.rest (rows_column + hour_places * i + (h - 1)) (omega arith) ∙ links.rows (rows_column + hour_places * i + (h - 1)) (omega arith)
        ∙ copied.none (rows_column + hour_places * i + (h - 1)) (omega arith) in omega (arith, none)
    | no more ↦
        let less : hour_places * i + (h - 1) < hour_places * count = lt_of_not-le more in
        let j = (hour_places * i + (h - 1)) / hour_places in
        let g = (hour_places * i + (h - 1)) % hour_places + 1 in
        let same : rows_column + hour_places * j + (g - 1) ≡ rows_column + hour_places * i + (h - 1) = omega arith in
        let is = rows.row_is j g (omega arith) (omega arith) (omega arith) in
        omega (arith, ap (λ k. get_or r k 0) same, is, sized.rows_fit (get_or order j 0) g)
  ]

  -- its parent stands before it, or it has none
  parent-fits : (i : ℕ) → i < most_blocks → parent_at r i ≤ i
  parent-fits i k = elim (dec_le count i) [
    | yes out ↦ omega (arith, parent_is i k, (links.none i out k).0)
    | no more ↦ let less : i < count = lt_of_not-le more in omega (arith, parent_is i k, links.parent_is i less, of.parents_before i less)
  ]

  -- and so its twins
  twins-fit : (i : ℕ) → i < most_blocks → (ahead_at r i ≤ most_blocks) × (behind_at r i ≤ most_blocks)
  twins-fit i k = elim (dec_le count i) [
    | yes out ↦ (omega (arith, ahead-is i k, (links.none i out k).1), omega (arith, behind-is i k, (links.none i out k).2))
    | no more ↦
        let less : i < count = lt_of_not-le more in (
          omega (arith, ahead-is i k, links.ahead_is i less, earlier-le place count i (ahead_at blocks (get_or order i 0))),
          omega (arith, behind-is i k, links.behind_is i less, earlier-le place count i (behind_at blocks (get_or order i 0))),
        )
  ]

  -- and its rank
  rank-fits : (i : ℕ) → i < most_blocks → rank_at r i < 2 ^ 32
  rank-fits i k = elim (dec_le count i) [
    | yes out ↦ omega (arith, rank_is i k, (links.none i out k).3)
    | no more ↦ omega (arith, rank_is i k, links.rank_is i (lt_of_not-le more), rank-small (get_or order i 0))
  ]

  pub reordered-sized : BlocksSized r
  reordered-sized = record { columns = rows.size; rows_fit = row_fits; parents_fit = parent-fits; twins_fit = twins-fit }

  -- its numbers have 32 bits, as those of the blocks have: those of the six columns
  six-fit : Words blocks → (k : ℕ) → k < parent_column → get_or r k 0 < 2 ^ 32
  six-fit words k below = elim (dec_le count (k % most_blocks)) [
    | yes out ↦ omega (arith, rows.same k (omega arith), links.columns k below, copied.empty k below out)
    | no more ↦
        let taken : k % most_blocks < count = lt_of_not-le more in
        let at = k - k % most_blocks + get_or order (k % most_blocks) 0 in
        omega (arith, rows.same k (omega arith), links.columns k below, copied.columns k below taken, words at)
  ]

  -- of the parents, twins and ranks
  links-fit : (k : ℕ) → parent_column ≤ k → k < rows_column → get_or r k 0 < 2 ^ 32
  links-fit k from to = elim (dec_le ahead_column k) [
    | yes twins ↦ elim (dec_le behind_column k) [
      | yes after ↦ elim (dec_le rank_column k) [
        | yes last ↦
            let at : rank_column + (k - rank_column) ≡ k = omega arith in
            omega (arith, ap (λ n. get_or r n 0) at, rank-fits (k - rank_column) (omega arith))
        | no more ↦
            let below : k < rank_column = lt_of_not-le more in
            let at : behind_column + (k - behind_column) ≡ k = omega arith in
            omega (arith, ap (λ n. get_or r n 0) at, (twins-fit (k - behind_column) (omega arith)).1)
      ]
      | no more ↦
          let below : k < behind_column = lt_of_not-le more in
          let at : ahead_column + (k - ahead_column) ≡ k = omega arith in
          omega (arith, ap (λ n. get_or r n 0) at, (twins-fit (k - ahead_column) (omega arith)).0)
    ]
    | no more ↦
        let below : k < ahead_column = lt_of_not-le more in
        let at : parent_column + (k - parent_column) ≡ k = omega arith in
        omega (arith, ap (λ n. get_or r n 0) at, parent-fits (k - parent_column) (omega arith))
  ]

  -- and of the rows
  rows_fit : (k : ℕ) → rows_column ≤ k → get_or r k 0 < 2 ^ 32
  rows_fit k from =
      let at : rows_column + hour_places * 0 + ((k - rows_column + 1) - 1) ≡ k = omega arith in
      omega (arith, ap (λ n. get_or r n 0) at, row_fits 0 (k - rows_column + 1))

  pub reordered-words : Words blocks → Words r
  reordered-words words k = elim (dec_le parent_column k) [
    | yes from ↦ elim (dec_le rows_column k) [
      | yes in_rows ↦ rows_fit k in_rows
      | no more ↦ links-fit k from (lt_of_not-le more)
    ]
    | no more ↦ six-fit words k (lt_of_not-le more)
  ]

  pub reordered-is : Reordered count order place blocks r
  reordered-is = record {
    side_is = λ j k. column-is 0 j (omega arith) k;
    hours_is = λ j k. column-is 1 j (omega arith) k;
    quantity_is = λ j k. column-is 2 j (omega arith) k;
    limit_is = λ j k. column-is 3 j (omega arith) k;
    against_is = λ j k. column-is 4 j (omega arith) k;
    gain_is = λ j k. column-is 5 j (omega arith) k;
    row_is = rows.row_is;
    parent_is = λ j k. parent_is j (omega arith) ∙ links.parent_is j k;
    ahead_is = λ j a k e. earlier-is of j (ahead_at blocks (get_or order j 0)) a (sym (links.ahead_is j k) ∙ sym (ahead-is j (omega arith)) ∙ e);
    behind_is = λ j a k e. earlier-is of j (behind_at blocks (get_or order j 0)) a (sym (links.behind_is j k) ∙ sym (behind-is j (omega arith)) ∙ e);
    rank_is = λ j k. rank_is j (omega arith) ∙ links.rank_is j k;
  }
