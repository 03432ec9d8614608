-- THE REACH of a branch: the places that it can still come to, hour by hour. Definitions only. Assumes nothing.
use Rattle.std.specs.Prelude.{ℕ, ◌+◌, ◌-◌, ◌/◌, ◌%◌, ◌^◌, ◌≤◌, Bool, not, ◌&&◌, ◌||◌, List, ◌≡◌, eqb, leb, length, Option, MatchOption}
use Rattle.rules.specs.Hour.{when}
use Rattle.places.specs.Layout.{hour_places, most_place}
use Rattle.places.specs.Hours.{Small, of_hour, larger, smaller}
use Rattle.places.specs.declared.reach.Reach.{Reach}
use Rattle.places.specs.Blocks.{side_at, against_at, gain_at, row_quantity, added_in}

-- THE BLOCKS THAT ARE OUT of a branch, as bits: bit k is for the block k places after the decided ones.
abbrev pub is_out : ℕ → ℕ → Bool
is_out out k = eqb (out / 2 ^ k % 2) 1

-- THE REACH: the places that a branch can still come to, hour by hour. With so much lost, a decision that loses up to the limit is not made; nor is a
-- block taken that is out: what it would gain counts in the loss already, so it is no reason to take it.
abbrev pub is_left : (blocks : List ℕ) (out : Bool) (loss limit i : ℕ) → Bool
is_left blocks out loss limit i = out || leb limit (loss + against_at blocks i)

abbrev pub is_taken : (blocks : List ℕ) (out : Bool) (loss limit i : ℕ) → Bool
is_taken blocks out loss limit i = not out && leb limit (loss + gain_at blocks i)

-- Block i moves the places of its hours on for certain: as a buy that is left out, as a sell that is taken.
unfoldable pub must_move : (blocks : List ℕ) (out : Bool) (loss limit i : ℕ) → Bool
must_move blocks out loss limit i =
    (is_left blocks out loss limit i && eqb (side_at blocks i) 0) || (is_taken blocks out loss limit i && not (eqb (side_at blocks i) 0))

-- It may move them: neither decision is certain.
unfoldable pub may_move : (blocks : List ℕ) (out : Bool) (loss limit i : ℕ) → Bool
may_move blocks out loss limit i = not (is_left blocks out loss limit i) && not (is_taken blocks out loss limit i)

-- The same of each block from number j on, the first of those that `out` is for.
abbrev pub must_from : (blocks : List ℕ) (j out loss limit : ℕ) → ℕ → Bool
must_from blocks j out loss limit i = must_move blocks (is_out out (i - j)) loss limit i

abbrev pub may_from : (blocks : List ℕ) (j out loss limit : ℕ) → ℕ → Bool
may_from blocks j out loss limit i = may_move blocks (is_out out (i - j)) loss limit i

-- The least places and what is free with block i more, each where the block moves it.
pub record AddedTo (blocks : List ℕ) (i : ℕ) (must may : Bool) (least free more freer : List ℕ) : Type 0 where
  pub more_size : length more ≡ hour_places
  pub freer_size : length freer ≡ hour_places
  pub more_is : (h : ℕ) → 1 ≤ h → h ≤ hour_places → of_hour more h ≡ of_hour least h + when must (row_quantity blocks i h)
  pub freer_is : (h : ℕ) → 1 ≤ h → h ≤ hour_places → of_hour freer h ≡ of_hour free h + when may (row_quantity blocks i h)

-- The least places of the hours, and what the blocks from number j on are free to add.
pub record RestOf (blocks : List ℕ) (count j out loss limit : ℕ) (places least free : List ℕ) : Type 0 where
  pub least_is : (h : ℕ) → 1 ≤ h → h ≤ hour_places → of_hour least h ≡ of_hour places h + added_in blocks (must_from blocks j out loss limit) h (count - j) j
  pub free_is : (h : ℕ) → 1 ≤ h → h ≤ hour_places → of_hour free h ≡ added_in blocks (may_from blocks j out loss limit) h (count - j) j
  pub least_fits : Small most_place least
  pub free_fits : Small most_place free

-- From its least place, with so much free to add, an hour reaches the places from..to at which it clears: the first and the last of them.
abbrev pub first_reached : (first least : List ℕ) → ℕ → ℕ
first_reached first least h = larger (of_hour least h) (of_hour first h)

abbrev pub last_reached : (last least free : List ℕ) → ℕ → ℕ
last_reached last least free h = smaller (of_hour least h + of_hour free h) (of_hour last h)

-- It can balance where there are any.
abbrev pub AllBalance : (first last least free : List ℕ) → Type 0
AllBalance first last least free = (h : ℕ) → 1 ≤ h → h ≤ hour_places → first_reached first least h ≤ last_reached last least free h

-- What the hours reach, each of them.
pub record Reaches (first last least free from to : List ℕ) : Type 0 where
  pub from_is : (h : ℕ) → 1 ≤ h → h ≤ hour_places → of_hour from h ≡ first_reached first least h
  pub to_is : (h : ℕ) → 1 ≤ h → h ≤ hour_places → of_hour to h ≡ last_reached last least free h
  pub balanced : (h : ℕ) → 1 ≤ h → h ≤ hour_places → of_hour from h ≤ of_hour to h

-- That, or none where an hour can no longer balance.
abbrev pub ReachOf : (first last least free : List ℕ) → Option Reach → Type 0
ReachOf first last least free reach =
    MatchOption reach (AllBalance first last least free → ⊥) (λ r. Reaches first last least free r.from r.to)

-- A branch at these places reaches that with its blocks from number j on.
pub record ReachedBy (first last blocks : List ℕ) (count j out loss limit : ℕ) (places : List ℕ) (reach : Option Reach) : Type 0 where
  pub least : List ℕ
  pub free : List ℕ
  pub rest : RestOf blocks count j out loss limit places least free
  pub reached : ReachOf first last least free reach
