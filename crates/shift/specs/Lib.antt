-- A set's shift of prices, by the search's columns. Definitions only.
pub mod Columns
pub mod Sought
pub mod Cases
