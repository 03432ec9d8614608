-- Laws of a branch: a set at its tables, sets that take no block without its parent, decisions made for certain, one more block decided, why a branch is
-- dropped.
pub mod SetLaws
pub mod ClosedLaws
pub mod DecisionLaws
pub mod NextLaws
pub mod DropLaws
