-- Laws of the tables: the steps in falling price, the price table, where the hour clears, and its gaps.
pub mod SortLaws
pub mod LevelLaws
pub mod RangeLaws
pub mod GapLaws
