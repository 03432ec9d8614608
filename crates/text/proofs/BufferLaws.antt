-- Bytes put into a buffer one after another. Assumes nothing.
use mathlib.Core.Path.{◌≡◌, sym, ap, ◌∙◌}
use mathlib.Core.List.{List, [], ◌++◌, append_assoc, append-nil}
use Prim.Native.Nat.{ℕ, ◌+◌, ◌≤◌}
use native.Mathlib.Omega.{arith}
use native.Mathlib.Nat.{add-zero, add_assoc}
use lib.ListN.{length, take, drop, length-append, length-drop, take-append-drop}
use lib.Seq.{length-take-le, take_at, drop-drop, drop-append-add, drop-length}
use borrow.Rule.Slice.PartMut.{put_mid}
use Rattle.text.specs.Buffer.{splice}

-- BYTES IN A BUFFER
module _ (l : List ℕ) (at : ℕ) (a : List ℕ) where
  pub length-splice : at + length a ≤ length l → length (splice l at a) ≡ length l
  unfolding splice
  length-splice h =
      let g : at ≤ length l = omega arith in
      rw (length-append, length-append, length-take-le at l, length-drop) (omega arith)

  -- bytes after bytes
  pub splice-splice : (b : List ℕ) → at + length a + length b ≤ length l → splice (splice l at a) (at + length a) b ≡ splice l at (a ++ b)
  unfolding splice
  splice-splice b h =
      let g : at ≤ length l = omega arith in
      let front : length (take at l ++ a) ≡ at + length a = rw (length-append, length-take-le at l) in
      let rest = drop (at + length a) l in
      rw (sym (append_assoc (take at l) a rest), take_at (take at l ++ a) rest (at + length a) front)
      (ap (λ (t : List ℕ). (take at l ++ a) ++ (b ++ t))
      (ap (λ (n : ℕ). drop (n + length b) ((take at l ++ a) ++ rest)) (sym front)
      ∙ drop-append-add (take at l ++ a) rest (length b)
      ∙ drop-drop (length b) (at + length a) l
      ∙ ap (λ (n : ℕ). drop n l) (add_assoc at (length a) (length b) ∙ ap (λ (n : ℕ). at + n) (sym (length-append a b))))
      ∙ append_assoc (take at l) a (b ++ drop (at + length (a ++ b)) l)
      ∙ ap (λ (t : List ℕ). take at l ++ t) (sym (append_assoc a b (drop (at + length (a ++ b)) l))))

-- a write of nothing
pub splice-none : (l : List ℕ) (at : ℕ) → l ≡ splice l at []
unfolding splice
splice-none l at = rw (add-zero, take-append-drop)

-- a part that is written over
pub splice-part : (at n : ℕ) (l a b : List ℕ) → n ≡ length b → a ≡ b → put_mid at n l a ≡ splice l at b
unfolding splice
splice-part at n l a b e f = rw (f, e) (ap (λ (t : List ℕ). take at l ++ (b ++ t)) (drop-drop (length b) at l))

-- a write of the whole buffer
pub splice_all : (l b : List ℕ) → length b ≡ length l → splice l 0 b ≡ b
unfolding splice
splice_all l b e =
    let z : 0 + length b ≡ length l = omega arith in
    rw (z, drop-length, append-nil)

-- a write m of the buffer l, and a write r right after it
pub then : (l m r : List ℕ) (at p : ℕ) (a b : List ℕ) →
    at + length a + length b ≤ length l → m ≡ splice l at a → p ≡ at + length a → r ≡ splice m p b → r ≡ splice l at (a ++ b)
then l m r at p a b h e q f = f ∙ ap (λ (k : ℕ). splice m k b) q ∙ ap (λ (x : List ℕ). splice x (at + length a) b) e ∙ splice-splice l at a b h
