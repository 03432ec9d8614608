-- The decisions that are made for certain, as the code tests them, and the bits of the blocks that are out. Assumes nothing.
use Prim.Native.Nat.{ℕ, zero, suc, ◌+◌, ◌-◌, ◌*◌, ◌/◌, ◌%◌, ◌^◌, ◌≤◌, ◌<◌}
use mathlib.Core.Path.{◌≡◌, refl, sym, ap, ◌∙◌}
use mathlib.Core.List.{List, [], ◌∷◌, ◌++◌}
use mathlib.Core.Bool.{Bool, true, false, cond, not, ◌||◌}
use native.Mathlib.Omega.{arith}
use mathlib.Core.Logic.{◌⊎◌, inl, inr}
use native.Mathlib.Decide.{dec_lt, ℕ_discrete}
use lib.Dec.{eqb, leb}
use lib.ListN.{length, get_or-append}
use lib.Seq.{get_or-append_seam}
use borrow.Author.Tests.{eqb-true, ne_eqb, lt-ltb, le-ltb}
use lib.Pow.{shr_le}
use Rattle.rules.specs.Hour.{when}
use Rattle.rules.specs.Day.{decisions}
use Rattle.rules.proofs.Tests.{by-test, clash}
use Rattle.rules.proofs.SetBits.{bits_at, bits-taken, bits_left}
use Rattle.book.specs.Bounds.{most_blocks}
use Rattle.places.specs.Blocks.{side_at, hours_at, limit_at, against_at, gain_at, parent_at, ahead_at, behind_at, keeps_at}
use Rattle.places.specs.Reach.{is_out}
use Rattle.branches.specs.Decisions.{names_left, names_gone, is_barred, is_due, is_forced, is_ruled_out, out_gains}

-- A BLOCK THAT IS NAMED by a column
module _ (name chosen : ℕ) where
  pub left-none : name ≡ 0 → false ≡ names_left name chosen
  unfolding names_left
  left-none e = rw e

  pub left-some : (name ≡ 0 → ⊥) → eqb (chosen / 2 ^ (name - 1) % 2) 0 ≡ names_left name chosen
  unfolding names_left
  left-some e = rw (ne_eqb name 0 e)

module _ (name n chosen out : ℕ) where
  pub gone-none : name ≡ 0 → false ≡ names_gone name n chosen out
  unfolding names_gone
  gone-none e = rw e

  pub gone-decided : (name ≡ 0 → ⊥) → name - 1 < n → eqb (chosen / 2 ^ (name - 1) % 2) 0 ≡ names_gone name n chosen out
  unfolding names_gone
  gone-decided e k = rw (ne_eqb name 0 e, lt-ltb (name - 1) n k)

  pub gone-open : (name ≡ 0 → ⊥) → n ≤ name - 1 → is_out out (name - 1 - n) ≡ names_gone name n chosen out
  unfolding names_gone
  gone-open e k = rw (ne_eqb name 0 e, le-ltb (name - 1) n k)

-- A BLOCK THAT IS BARRED, AND ONE THAT IS DUE
module _ (blocks : List ℕ) (i chosen : ℕ) where
  pub barred-is : (parent ahead : Bool) → parent ≡ names_left (parent_at blocks i) chosen → ahead ≡ names_left (ahead_at blocks i) chosen →
      (parent || ahead) ≡ is_barred blocks i chosen
  unfolding is_barred
  barred-is parent ahead e f = rw (e, f)

  pub due-none : behind_at blocks i ≡ 0 → false ≡ is_due blocks i chosen
  unfolding is_due
  due-none e = rw e

  pub due-some : (behind_at blocks i ≡ 0 → ⊥) → eqb (chosen / 2 ^ (behind_at blocks i - 1) % 2) 1 ≡ is_due blocks i chosen
  unfolding is_due
  due-some e = rw (ne_eqb (behind_at blocks i) 0 e)

-- A DECISION that has no other
module _ (blocks : List ℕ) (n chosen loss limit : ℕ) where
  pub forced-none : n ≡ 0 → false ≡ is_forced blocks n chosen loss limit
  unfolding is_forced
  forced-none e = rw e

  pub forced-taken : (n ≡ 0 → ⊥) → eqb (chosen / 2 ^ (n - 1) % 2) 1 ≡ true → leb limit (loss + gain_at blocks (n - 1)) ≡ is_forced blocks n chosen loss limit
  unfolding is_forced
  forced-taken e t = rw (ne_eqb n 0 e, t)

  pub forced-left : (n ≡ 0 → ⊥) → eqb (chosen / 2 ^ (n - 1) % 2) 1 ≡ false → leb limit (loss + against_at blocks (n - 1)) ≡ is_forced blocks n chosen loss limit
  unfolding is_forced
  forced-left e t = rw (ne_eqb n 0 e, t)

-- two tests of which neither passes
pub neither : (a b : Bool) → (a || b) ≡ false → (a ≡ false) × (b ≡ false)
neither false false e = (refl, refl)
neither false true e = clash refl e
neither true b e = clash refl e

-- THE UNDECIDED BLOCKS THAT ARE OUT
module _ (blocks : List ℕ) (i : ℕ) (was gone : Bool) (high low : List ℕ) where
  pub ruled-before : (was || gone) ≡ true → true ≡ is_ruled_out blocks i was gone high low
  unfolding is_ruled_out
  ruled-before e = either was gone _ e
    where
      either : (was gone other : Bool) → (was || gone) ≡ true → true ≡ (was || gone || other)
      either true gone other e = refl
      either false true other e = refl
      either false false other e = clash e refl

  pub ruled-now : (was || gone) ≡ false → (keeps : Bool) → keeps ≡ keeps_at (side_at blocks i) (hours_at blocks i) (limit_at blocks i) high low →
      not keeps ≡ is_ruled_out blocks i was gone high low
  unfolding is_ruled_out
  ruled-now e keeps k = rw ((neither was gone e).0, (neither was gone e).1, k)

-- there are as many decisions as blocks
pub decisions-long : (m r : ℕ) → length (decisions m r) ≡ m
unfolding decisions
decisions-long zero r = refl
decisions-long (suc m) r = ap suc (decisions-long m (r / 2))

-- one bit more, above those of r: the bits below it stay, and it tells what was tested
module _ (m r b : ℕ) (test : Bool) (fits : r < 2 ^ m) (is : b ≡ cond test (2 ^ m) 0) where
  more-bits : decisions (suc m) (r + b) ≡ decisions m r ++ (test ∷ [])
  more-bits = by-test (λ u. b ≡ cond u (2 ^ m) 0 → decisions (suc m) (r + b) ≡ decisions m r ++ (u ∷ [])) test
      (λ _ e. rw e (bits-taken m r fits))
      (λ _ e. let none : r + b ≡ r = omega arith in rw none (bits_left m r fits)) is

  pub more-fits : r + b < 2 ^ suc m
  more-fits = by-test (λ u. b ≡ cond u (2 ^ m) 0 → r + b < 2 ^ suc m) test (λ _ e. omega arith) (λ _ e. omega arith) is

  bits-long : length (decisions m r) ≡ m
  bits-long = decisions-long m r

  pub lower-bits : (k : ℕ) → k < m → is_out (r + b) k ≡ is_out r k
  lower-bits k inside =
      sym (bits_at (suc m) (r + b) k (omega arith))
      ∙ rw more-bits (get_or-append (decisions m r) (test ∷ []) false k (omega (arith, bits-long))) ∙ bits_at m r k inside

  pub top_bit : is_out (r + b) m ≡ test
  top_bit =
      sym (bits_at (suc m) (r + b) m (omega arith))
      ∙ rw more-bits (rw bits-long at (get_or-append_seam (decisions m r) test [] false))

-- a name of one of the first n blocks, or of one before the m that are told, is gone by the bits below the m-th
gone_same : (name n m chosen out more : ℕ) → name ≤ n + m → ((k : ℕ) → k < m → is_out more k ≡ is_out out k) →
    names_gone name n chosen more ≡ names_gone name n chosen out
gone_same name n m chosen out more le same = elim (ℕ_discrete name 0) [
  | yes z ↦ sym (gone-none name n chosen more z) ∙ gone-none name n chosen out z
  | no z ↦ elim (dec_lt (name - 1) n) [
    | yes k ↦ sym (gone-decided name n chosen more z k) ∙ gone-decided name n chosen out z k
    | no k ↦ sym (gone-open name n chosen more z (omega arith)) ∙ same (name - 1 - n) (omega arith) ∙ gone-open name n chosen out z (omega arith)
  ]
]

-- a block that is gone: it is a decided one that is left out, or an undecided one that is out
pub gone-named : (name n chosen out : ℕ) → names_gone name n chosen out ≡ true → name ≡ 0 → ⊥
gone-named name n chosen out e z = clash e (sym (gone-none name n chosen out z))

pub gone-which : (name n chosen out : ℕ) → names_gone name n chosen out ≡ true →
    ((name - 1 < n) × (eqb (chosen / 2 ^ (name - 1) % 2) 1 ≡ false)) ⊎ ((n ≤ name - 1) × (is_out out (name - 1 - n) ≡ true))
gone-which name n chosen out e =
    let some = gone-named name n chosen out e in
    elim (dec_lt (name - 1) n) [
      | yes k ↦
          let zero_bit = eqb-true (chosen / 2 ^ (name - 1) % 2) 0 (gone-decided name n chosen out some k ∙ e) in
          inl (k, ne_eqb (chosen / 2 ^ (name - 1) % 2) 1 (λ one. omega arith))
      | no k ↦ inr (omega arith, gone-open name n chosen out some (omega arith) ∙ e)
    ]

-- a number that is chosen, or 0
chosen-small : (test : Bool) (x g : ℕ) → g ≡ cond test x 0 → g ≤ x
chosen-small true x g e = omega arith
chosen-small false x g e = omega arith

-- what is out gains the same by the bits below the k-th
gains-same : (blocks : List ℕ) (n out more k : ℕ) → ((j : ℕ) → j < k → is_out more j ≡ is_out out j) → out_gains blocks n more k ≡ out_gains blocks n out k
unfolding out_gains
gains-same blocks n out more zero same = refl
gains-same blocks n out more (suc k) same = rw (gains-same blocks n out more k (λ j a. same j (omega arith)), same k (omega arith))

-- none is out: nothing is gained
pub gains-none : (blocks : List ℕ) (n out k : ℕ) → out ≡ 0 → out_gains blocks n out k ≡ 0
unfolding out_gains
gains-none blocks n out zero e = refl
gains-none blocks n out (suc k) e = let z : out / 2 ^ k ≡ 0 = omega (arith, shr_le out k) in rw (gains-none blocks n out k e, z)

-- WHAT IS OUT WOULD GAIN, of the blocks up to number i
module _ (blocks : List ℕ) (count at : ℕ) where
  pub record GainsTo (out i gains : ℕ) : Type 0 where
    pub from : at ≤ i
    pub to : i ≤ count
    pub gained : gains ≡ out_gains blocks at out (i - at)
    pub gains_fit : gains ≤ (i - at) * 2 ^ 32

  pub gains-start : (out : ℕ) → at ≤ count → GainsTo out at 0
  unfolding out_gains
  gains-start out le =
      let none : at - at ≡ 0 = omega arith in
      record { from = omega arith; to = le; gained = rw none; gains_fit = omega arith }

  -- one block more, where the bits below its own stay
  pub gains-next : (out more i gains g : ℕ) (test : Bool) → GainsTo out i gains → i < count → ((k : ℕ) → k < i - at → is_out more k ≡ is_out out k) →
      is_out more (i - at) ≡ test → g ≡ cond test (gain_at blocks i) 0 → gain_at blocks i < 2 ^ 32 → GainsTo more (i + 1) (gains + g)
  unfolding out_gains
  gains-next out more i gains g test v inside same bit gg small =
      let n : i + 1 - at ≡ suc (i - at) = omega (arith, v.from) in
      let here : at + (i - at) ≡ i = omega (arith, v.from) in
      record {
        from = omega (arith, v.from);
        to = omega arith;
        gained = rw (n, gains-same blocks at out more (i - at) same, bit, here, ← gain-is, ← v.gained);
        gains_fit = omega (arith, v.from, v.gains_fit, chosen-small test (gain_at blocks i) g gg);
      }
    where
      gain-is : g ≡ when test (gain_at blocks i)
      gain-is = by-test (λ u. g ≡ cond u (gain_at blocks i) 0 → g ≡ when u (gain_at blocks i)) test (λ _ z. z) (λ _ z. z) gg

module _ (blocks : List ℕ) (count at chosen out : ℕ) (high low : List ℕ) where
  abbrev ruled_at : ℕ → ℕ → Bool
  ruled_at r k = is_ruled_out blocks (at + k) (is_out out k) (names_gone (parent_at blocks (at + k)) at chosen r) high low

  pub record RuledTo (i r gains : ℕ) : Type 0 where
    pub fits : r < 2 ^ (i - at)
    pub is : (k : ℕ) → k < i - at → is_out r k ≡ ruled_at r k
    pub gained : GainsTo blocks count at r i gains

  pub ruled-start : at ≤ count → RuledTo at 0 0
  ruled-start le =
      let none : at - at ≡ 0 = omega arith in
      record { fits = rw none (omega arith); is = λ k a. absurd (omega arith); gained = gains-start blocks count at 0 le }

  pub ruled-next : ((i : ℕ) → i < most_blocks → parent_at blocks i ≤ i) → count ≤ most_blocks → (i r b gains g : ℕ) (was gone test : Bool) → RuledTo i r gains →
      i < count → was ≡ is_out out (i - at) →
      gone ≡ names_gone (parent_at blocks i) at chosen r → test ≡ is_ruled_out blocks i was gone high low → b ≡ cond test (2 ^ (i - at)) 0 →
      g ≡ cond test (gain_at blocks i) 0 → gain_at blocks i < 2 ^ 32 → RuledTo (i + 1) (r + b) (gains + g)
  ruled-next parents few i r b gains g was gone test v inside ew eg et e gg small =
      let n : i + 1 - at ≡ suc (i - at) = omega (arith, v.gained.from) in
      record {
        fits = rw n (more-fits (i - at) r b test v.fits e);
        is = λ k a. elim (ℕ_discrete k (i - at)) [
          | yes z ↦ rw z top
          | no z ↦ lower k (omega arith)
        ];
        gained = gains-next blocks count at r (r + b) i gains g test v.gained inside same (top_bit (i - at) r b test v.fits e) gg small;
      }
    where
      same : (k : ℕ) → k < i - at → is_out (r + b) k ≡ is_out r k
      same = lower-bits (i - at) r b test v.fits e

      gone_at : (k : ℕ) → k ≤ i - at → names_gone (parent_at blocks (at + k)) at chosen (r + b) ≡ names_gone (parent_at blocks (at + k)) at chosen r
      gone_at k le =
          let from = v.gained.from in
          gone_same (parent_at blocks (at + k)) at (i - at) chosen r (r + b) (omega (arith, from, parents (at + k) (omega (arith, from)))) same

      lower : (k : ℕ) → k < i - at → is_out (r + b) k ≡ ruled_at (r + b) k
      lower k a = same k a ∙ v.is k a ∙ rw (gone_at k (omega arith))

      top : is_out (r + b) (i - at) ≡ ruled_at (r + b) (i - at)
      top =
          let here : at + (i - at) ≡ i = omega (arith, v.gained.from) in
          top_bit (i - at) r b test v.fits e ∙ et ∙ rw (gone_at (i - at) (omega arith), here, ew, eg)
