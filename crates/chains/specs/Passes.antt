-- What one walk along a chain finds out. No reader of an answer needs it. Definitions only. Assumes nothing.
use Rattle.std.specs.Prelude.{ℕ, List}
use Rattle.chains.specs.Chains.{chain_from, count_on}
use Rattle.chains.specs.Causes.{broken_on, wrong_field_on}
use Rattle.chains.specs.declared.Chain.{Chain}
use Rattle.chains.specs.declared.Surveyed.{Surveyed}
use Rattle.chains.specs.declared.following.Walk.{Walk}

-- What one walk along a chain finds out: causes 3 and 4 on it, and how many records it has
unfoldable pub surveyed : List ℕ → Chain → Surveyed
surveyed b c = record { broken = broken_on b c; outside = wrong_field_on b c; length = count_on b c }

-- The indices that a walk has still to give
abbrev pub to_follow : Walk → List ℕ
to_follow w = chain_from w.left w.book.now w.at
