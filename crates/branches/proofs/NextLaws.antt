-- ONE MORE BLOCK taken or left out of a branch; blocks that are in no completion that counts: a child without its parent, a twin out of turn, one that is out.
-- Assumes nothing.
use Prim.Native.Nat.{ℕ, suc, ◌+◌, ◌-◌, ◌*◌, ◌/◌, ◌%◌, ◌^◌, ◌≤◌, ◌<◌}
use mathlib.Core.Path.{◌≡◌, refl, sym, ◌∙◌}
use mathlib.Core.List.{List, [], ◌∷◌, ◌++◌}
use mathlib.Core.Bool.{Bool, true, false, not, ◌||◌}
use native.Mathlib.Omega.{arith}
use native.Mathlib.Numerals.{add-one}
use lib.Dec.{eqb}
use lib.ListN.{length, get_or, length-append, get_or-append}
use lib.Seq.{get_or-append_seam}
use lib.Pow.{pow_mono, shr-shr}
use borrow.Author.Tests.{eqb-true, eqb-false, eq-eqb, ne_eqb, not-true}
use Rattle.rules.specs.Hour.{when}
use Rattle.rules.specs.Day.{Day, lawful}
use Rattle.rules.proofs.Tests.{by-test, both, clash}
use Rattle.rules.proofs.CurveLaws.{when-le}
use Rattle.rules.proofs.LossLaws.{losses-taken, losses-left}
use Rattle.rules.proofs.SearchLaws.{decided-next}
use Rattle.rules.proofs.LinkLaws.{Closed}
use Rattle.rules.proofs.TwinLaws.{InTurn, turn-left}
use Rattle.rules.proofs.SetBits.{bits-taken, bits_left, bits-room}
use Rattle.rules.proofs.PlaceLaws.{place-taken, place-left}
use Rattle.book.specs.Bounds.{most_blocks}
use Rattle.places.specs.Layout.{hour_places, most_added}
use Rattle.places.specs.Hours.{Small, of_hour}
use Rattle.places.specs.Blocks.{side_at, against_at, gain_at, parent_at, ahead_at, rank_at, row_quantity, BlocksSized}
use Rattle.places.specs.Reach.{is_out}
use Rattle.branches.specs.Decisions.{names_left, is_barred}
use Rattle.branches.specs.Meaning.{Fits, Shown, Known, Branch, loss_above, OutOf, At, TakenTo, LeftTo}
use Rattle.branches.specs.Tables.{Tables}
use Rattle.places.proofs.AddedLaws.{places-grow}
use Rattle.branches.proofs.ClosedLaws.{next-closed, lawful-closed}
use Rattle.branches.proofs.DecisionLaws.{left-some, neither}
use Rattle.branches.proofs.SetLaws.{sells-at, buys-at, decided-bit}
use Rattle.rules.proofs.TieLaws.{ties-taken, ties-left}
use Rattle.branches.specs.declared.Node.{Node}

-- ONE MORE BLOCK, in the code's numbers
-- the node with the block taken, and with it left out
module _ (blocks : List ℕ) (at : ℕ) (node : Node) (moved : List ℕ) (sized : BlocksSized blocks)
    (fits : Fits at node) (size : length moved ≡ hour_places) where
  abbrev MovedBy : Bool → Type 0
  MovedBy t = (h : ℕ) → 1 ≤ h → h ≤ hour_places → of_hour moved h ≡ of_hour node.places h + when t (row_quantity blocks at h)

  moved-fits : (t : Bool) → MovedBy t → Small ((at + 1) * most_added) moved
  moved-fits t m =
      places-grow at node.places moved size fits.places_fit (λ h a b.
      omega (arith, m h a b, when-le t (row_quantity blocks at h), sized.rows_fit at h))

  pub node-taken : (b : ℕ) → b ≡ 2 ^ at → against_at blocks at < 2 ^ 32 → MovedBy (not (eqb (side_at blocks at) 0)) →
      let r : Node = record { set = node.set + b; loss = node.loss + against_at blocks at; tie = node.tie; places = moved } in Fits (at + 1) r × TakenTo blocks at node r
  node-taken b eb small m = (
    record {
      set_fits = rw (eb, add-one) (bits-room at node.set fits.set_fits).0;
      loss_fits = omega (arith, fits.loss_fits);
      tie_fits = omega (arith, fits.tie_fits);
      places_size = size;
      places_fit = moved-fits (not (eqb (side_at blocks at) 0)) m;
    },
    record { set_is = rw eb; loss_is = refl; tie_is = refl; places_are = m },
  )

  pub node-left : gain_at blocks at < 2 ^ 32 → rank_at blocks at < 2 ^ 32 → MovedBy (eqb (side_at blocks at) 0) →
      let r : Node = record { set = node.set; loss = node.loss + gain_at blocks at; tie = node.tie + rank_at blocks at; places = moved } in Fits (at + 1) r × LeftTo blocks at node r
  node-left small low m = (
    record {
      set_fits = rw add-one (bits-room at node.set fits.set_fits).1;
      loss_fits = omega (arith, fits.loss_fits);
      tie_fits = omega (arith, fits.tie_fits);
      places_size = size;
      places_fit = moved-fits (eqb (side_at blocks at) 0) m;
    },
    record { set_is = refl; loss_is = refl; tie_is = refl; places_are = m },
  )

-- the branch with the block taken, and with it left out
module _ {day : Day} {p rest : ℕ → ℕ} {tables : Tables} (known : Known day p rest tables)
    {d : List Bool} (node r : Node) (branch : Branch day p d node) (room : node.set < 2 ^ length d)
    (k : length d < tables.count) where
  S : Shown day p tables.blocks (length d)
  S = known.shown (length d) k

  longer : (x : Bool) → length (d ++ (x ∷ [])) ≡ suc (length d)
  longer x = length-append d (x ∷ []) ∙ omega arith

  pub branch-taken : TakenTo tables.blocks (length d) node r → Branch day p (d ++ (true ∷ [])) r
  branch-taken t = record {
    set_is = rw (longer true, t.set_is, bits-taken (length d) node.set room, branch.set_is);
    loss_is = t.loss_is ∙ rw (branch.loss_is, ← S.against_is) (sym (losses-taken day.hours p day.blocks d S.block _ S.next));
    places_are = λ h c.
        t.places_are h c.first c.last ∙ rw (branch.places_are h c, ← (sells-at S h c)) (sym (place-taken day.blocks d S.block _ S.next h));
  }

  pub branch-left : LeftTo tables.blocks (length d) node r → Branch day p (d ++ (false ∷ [])) r
  branch-left t = record {
    set_is = rw (longer false, t.set_is, bits_left (length d) node.set room, branch.set_is);
    loss_is = t.loss_is ∙ rw (branch.loss_is, ← S.gain_is) (sym (losses-left day.hours p day.blocks d S.block _ S.next));
    places_are = λ h c.
        t.places_are h c.first c.last ∙ rw (branch.places_are h c, ← (buys-at S h c)) (sym (place-left day.blocks d S.block _ S.next h));
  }

-- a set of fewer than 32 blocks and one more fits 32 bits
pub set_room : (at set b : ℕ) → at < most_blocks → set < 2 ^ at → b ≡ 2 ^ at → set + b < 2 ^ 32
set_room at set b k room e = rw e (omega (arith, bits-room at set room, pow_mono {i = suc at} {j = 32} k))

-- THE BLOCKS THAT ARE OUT
-- the next block is decided: what is out of the branch stays out, and the next bit is the lowest
out-next : (day : Day) (p rest : ℕ → ℕ) (d : List Bool) (x : Bool) (left limit less out : ℕ) → 0 < left → less ≤ limit →
    OutOf day p rest d left limit out → OutOf day p rest (d ++ (x ∷ [])) (left - 1) less (out / 2)
out-next day p rest d x left limit less out pos le f t k l law low inside is =
    let e : 1 + k ≡ suc k = omega arith in
    f (x ∷ t) (suc k) (omega arith) (rw decided-next at law) (omega (arith, rw (decided-next d x t) at low)) (omega arith)
    (rw (← (rw e at (shr-shr out 1 k))) is)

pub out-not : (day : Day) (p rest : ℕ → ℕ) (d : List Bool) (left limit out : ℕ) → 0 < left → OutOf day p rest d left limit out → is_out out 0 ≡ true →
    (t : List Bool) → length t ≡ left - 1 → lawful day (d ++ (true ∷ t)) ≡ true → limit ≤ loss_above day p rest (d ++ (true ∷ t))
out-not day p rest d left limit out pos f is t l law = elim (native.Mathlib.Decide.dec_le limit (loss_above day p rest (d ++ (true ∷ t)))) [
  | yes k ↦ k
  | no k ↦ clash refl (f (true ∷ t) 0 (omega arith) law (native.Mathlib.Nat.lt_of_not-le k) pos is)
]

-- A BLOCK THAT IS NAMED by a column, among the decided ones
-- it is left out: then there is one, and its decision says so
named-left : {day : Day} {p : ℕ → ℕ} {d : List Bool} {node : Node} → Branch day p d node → (name : ℕ) → name ≤ length d → names_left name node.set ≡ true →
    (name ≡ suc (name - 1)) × (get_or d (name - 1) false ≡ false)
unfolding names_left
named-left {node = node} branch name le left =
    let tests = both (not (eqb name 0)) (eqb (node.set / 2 ^ (name - 1) % 2) 0) left in
    let some = eqb-false name 0 (not-true _ tests.0) in
    let zero_bit = eqb-true (node.set / 2 ^ (name - 1) % 2) 0 tests.1 in
    (omega arith, decided-bit branch (name - 1) (omega arith) ∙ ne_eqb (node.set / 2 ^ (name - 1) % 2) 1 (λ e. omega arith))

-- it is not left out: then, if there is one, it is taken
named-taken : {day : Day} {p : ℕ → ℕ} {d : List Bool} {node : Node} → Branch day p d node → (name k : ℕ) → name ≡ suc k → k < length d →
    names_left name node.set ≡ false → get_or d k false ≡ true
named-taken {node = node} branch name k is inside kept =
    let e : name - 1 ≡ k = omega arith in
    let odd = eqb-false (node.set / 2 ^ k % 2) 0 (rw e at (left-some name node.set (λ z. omega arith) ∙ kept)) in
    decided-bit branch k inside ∙ eq-eqb (node.set / 2 ^ k % 2) 1 (omega arith)

-- A block is in no completion that counts: its parent is left out, or a twin that is taken before it
module _ {day : Day} {p rest : ℕ → ℕ} {tables : Tables} (known : Known day p rest tables) {d : List Bool} {node : Node} (branch : Branch day p d node)
    (k : length d < tables.count) where
  parent-here : parent_at tables.blocks (length d) ≡ known.parent (length d)
  parent-here = known.parent_is (length d) k

  parent-below : parent_at tables.blocks (length d) ≤ length d
  parent-below = omega (arith, parent-here, known.parents.before (length d))

  orphan-not : names_left (parent_at tables.blocks (length d)) node.set ≡ true → (t : List Bool) → length (d ++ (true ∷ t)) ≡ tables.count →
      lawful day (d ++ (true ∷ t)) ≡ true → ⊥
  orphan-not left t size law =
      let named = named-left branch _ parent-below left in
      clash (lawful-closed known (d ++ (true ∷ t)) size law (length d) _ (sym parent-here ∙ named.0) (get_or-append_seam d true t false))
      (get_or-append d (true ∷ t) false _ (omega (arith, named.0, parent-below)) ∙ named.1)

  turned-not : names_left (ahead_at tables.blocks (length d)) node.set ≡ true → (t : List Bool) → InTurn day p (d ++ (true ∷ t)) → ⊥
  turned-not left t kept =
      let ahead = ahead_at tables.blocks (length d) in
      let some = eqb-false ahead 0 (not-true _ (both (not (eqb ahead 0)) (eqb (node.set / 2 ^ (ahead - 1) % 2) 0) (unfold names_left in left)).0) in
      let is : ahead ≡ suc (ahead - 1) = omega arith in
      let twin = known.ahead (length d) (ahead - 1) k is in
      turn-left day p d (ahead - 1) twin.0 twin.1 (named-left branch ahead (omega (arith, twin.0)) left).1 t kept

  pub barred-not : is_barred tables.blocks (length d) node.set ≡ true → (t : List Bool) → length (d ++ (true ∷ t)) ≡ tables.count →
      lawful day (d ++ (true ∷ t)) ≡ true → InTurn day p (d ++ (true ∷ t)) → ⊥
  unfolding is_barred
  barred-not barred t size law kept =
      by-test (λ u. (u || names_left (ahead_at tables.blocks (length d)) node.set) ≡ true →
      names_left (parent_at tables.blocks (length d)) node.set ≡ u → ⊥) (names_left (parent_at tables.blocks (length d)) node.set)
      (λ is _ _. orphan-not is t size law) (λ _ is _. turned-not is t kept) barred refl

  -- a block that is not barred has its parent taken, if it has one
  parent-taken : is_barred tables.blocks (length d) node.set ≡ false → (i : ℕ) → known.parent (length d) ≡ suc i → get_or d i false ≡ true
  unfolding is_barred
  parent-taken free i link =
      let named : parent_at tables.blocks (length d) ≡ suc i = parent-here ∙ link in
      named-taken branch _ i named (omega (arith, parent-below)) (neither _ _ free).0

-- THE BRANCH AT ITS TABLES, with one more block decided
module _ {tables : Tables} where
  module _ {left out : ℕ} {node : Node} {limit : ℕ} (pos : 0 < left) (le : left ≤ tables.count) (room : node.set < 2 ^ (tables.count - left))
      {day : Day} {p rest : ℕ → ℕ} {d : List Bool} (here : At tables left node limit out day p rest d) where
    at-is : tables.count - left ≡ length d
    at-is = omega (arith, here.size)

    one_more : length d < tables.count
    one_more = omega (arith, here.size)

    room-here : node.set < 2 ^ length d
    room-here = rw (← at-is) room

    closed-next : (x : Bool) → (x ≡ true → (k : ℕ) → here.known.parent (length d) ≡ suc k → get_or d k false ≡ true) →
        Closed here.known.parent (d ++ (x ∷ []))
    closed-next = next-closed here.known.parent here.known.parents.before d here.closed

    pub at-taken : {r : Node} (less : ℕ) → is_barred tables.blocks (tables.count - left) node.set ≡ false →
        TakenTo tables.blocks (tables.count - left) node r → less ≤ limit →
        At tables (left - 1) r less (out / 2) day p rest (d ++ (true ∷ []))
    at-taken {r} less free t small = record {
      known = here.known;
      turning = here.turning;
      branch = branch-taken here.known node r here.branch room-here one_more (rw at-is at t);
      tie_is = t.tie_is ∙ here.tie_is ∙ sym (ties-taken (rank_at tables.blocks) d);
      closed = closed-next true (λ _. parent-taken here.known here.branch one_more (rw at-is at free));
      size = omega (arith, length-append d (true ∷ []), here.size);
      out_of = out-next day p rest d true left limit less out pos small here.out_of;
    }

    pub at_left : {r : Node} (less : ℕ) → LeftTo tables.blocks (tables.count - left) node r → less ≤ limit →
        At tables (left - 1) r less (out / 2) day p rest (d ++ (false ∷ []))
    at_left {r} less t small = record {
      known = here.known;
      turning = here.turning;
      branch = branch-left here.known node r here.branch room-here one_more (rw at-is at t);
      tie_is = t.tie_is ∙ rw (here.tie_is, at-is) (sym (ties-left (rank_at tables.blocks) d));
      closed = closed-next false (λ e. clash e refl);
      size = omega (arith, length-append d (false ∷ []), here.size);
      out_of = out-next day p rest d false left limit less out pos small here.out_of;
    }
