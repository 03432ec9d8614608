-- Laws of the search: the limit of a branch by the best so far, a decided set and what it trades, a branch explored.
pub mod CutLaws
pub mod LimitLaws
pub mod TradedLaws
pub mod DecidedLaws
pub mod ShiftedLaws
pub mod ExploredLaws
