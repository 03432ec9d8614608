-- Bytes put at the start of a buffer, where they have room and where not. Assumes nothing.
use Prim.Native.Nat.{ℕ, ◌≤◌, ◌<◌}
use mathlib.Core.Path.{◌≡◌}
use mathlib.Core.List.{List}
use lib.ListN.{length}
use borrow.Author.Tests.{le-leb, lt-leb}
use Rattle.text.specs.Buffer.{splice}
use Rattle.exports.specs.Parts.{buffer_after}

pub with-room : (bytes before after : List ℕ) → length bytes ≤ length before → after ≡ splice before 0 bytes → after ≡ buffer_after bytes before
unfolding buffer_after
with-room bytes before after h e = rw (le-leb (length bytes) (length before) h) e

pub without-room : (bytes before : List ℕ) → length before < length bytes → before ≡ buffer_after bytes before
unfolding buffer_after
without-room bytes before h = rw (lt-leb (length bytes) (length before) h)
