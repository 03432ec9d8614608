-- Laws of the places: what the tables have there, what blocks add, limits, trades, the reach of a branch.
pub mod NumberLaws
pub mod HourColumnLaws
pub mod StepLaws
pub mod CellLaws
pub mod CountedLaws
pub mod LimitLaws
pub mod AddedLaws
pub mod TradeLaws
pub mod ReachLaws
