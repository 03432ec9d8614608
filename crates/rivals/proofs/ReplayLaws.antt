-- THE BRANCH OF A SET'S DECISIONS, block by block from nothing. Assumes nothing.
use Prim.Native.Nat.{ℕ, zero, suc, ◌+◌, ◌-◌, ◌/◌, ◌^◌, ◌<◌}
use mathlib.Core.Bool.{Bool, true, false}
use mathlib.Core.List.{List, [], ◌∷◌, ◌++◌}
use mathlib.Core.Path.{◌≡◌, refl, sym, ◌∙◌}
use native.Mathlib.Omega.{arith}
use native.Mathlib.Nat.{div-one}
use native.Mathlib.Numerals.{add-one}
use lib.ListN.{length, replicate}
use lib.Pow.{pow_pos, shr-shr}
use Rattle.rules.specs.Day.{decisions}
use Rattle.rules.proofs.LossLaws.{losses-none}
use Rattle.rules.proofs.PlaceLaws.{place_none}
use Rattle.rules.proofs.TieLaws.{ties, ties-taken, ties-left}
use Rattle.orders.proofs.ColumnLaws.{zeros}
use Rattle.places.specs.Layout.{hour_places}
use Rattle.places.specs.Blocks.{rank_at}
use Rattle.branches.specs.Meaning.{Fits, TakenTo, LeftTo}
use Rattle.branches.specs.declared.Node.{Node}
use Rattle.branches.proofs.DecisionLaws.{decisions-long}
use Rattle.branches.proofs.NextLaws.{branch-taken, branch-left}
use Rattle.rivals.specs.Tests.{holds, Replays}

-- one more decision of a set is its next bit
bits-more : (k u : ℕ) → decisions (suc k) u ≡ decisions k u ++ (holds u k ∷ [])
unfolding decisions
bits-more zero u = rw (div-one u)
bits-more (suc k) u =
    let e : 1 + k ≡ suc k = omega arith in
    rw (bits-more k (u / 2), rw e at (shr-shr u 1 k))

-- NOTHING IS DECIDED
abbrev nothing : Node
nothing = record { set = 0; loss = 0; tie = 0; places = replicate hour_places 0 }

pub replays-none : (blocks : List ℕ) (set : ℕ) → Replays blocks 0 set nothing
unfolding decisions ties
replays-none blocks set = record {
  fits = record {
    set_fits = pow_pos 0;
    loss_fits = omega arith;
    tie_fits = omega arith;
    places_size = refl;
    places_fit = λ i. omega (arith, zeros hour_places i);
  };
  tie_is = refl;
  branch = λ day p rest t known e le. record {
    set_is = refl;
    loss_is = sym (losses-none day.hours p day.blocks);
    places_are = λ h c. zeros hour_places (h - 1) ∙ sym (place_none day.blocks h);
  };
}

-- ONE MORE BLOCK, as the set has it
module _ {blocks : List ℕ} {at set : ℕ} {node : Node} (v : Replays blocks at set node) where
  long : length (decisions at set) ≡ at
  long = decisions-long at set

  room : node.set < 2 ^ length (decisions at set)
  room = rw long v.fits.set_fits

  more : (x : Bool) → holds set at ≡ x → decisions (at + 1) set ≡ decisions at set ++ (x ∷ [])
  more x e = rw (add-one, bits-more at set, e)

  pub replays-taken : (r : Node) → holds set at ≡ true → Fits (at + 1) r × TakenTo blocks at node r → Replays blocks (at + 1) set r
  replays-taken r is (fits, t) = record {
    fits = fits;
    tie_is = t.tie_is ∙ v.tie_is ∙ rw (more true is) (sym (ties-taken (rank_at blocks) (decisions at set)));
    branch = λ day p rest tables known e le.
        rw (more true is) (branch-taken known node r (v.branch day p rest tables known e (omega arith)) room (omega (arith, long)) (rw (e, long) t));
  }

  pub replays-left : (r : Node) → holds set at ≡ false → Fits (at + 1) r × LeftTo blocks at node r → Replays blocks (at + 1) set r
  replays-left r is (fits, t) = record {
    fits = fits;
    tie_is = t.tie_is ∙ rw (more false is, v.tie_is, ties-left (rank_at blocks) (decisions at set), long);
    branch = λ day p rest tables known e le.
        rw (more false is) (branch-left known node r (v.branch day p rest tables known e (omega arith)) room (omega (arith, long)) (rw (e, long) t));
  }
