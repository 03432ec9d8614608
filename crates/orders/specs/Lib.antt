-- The orders of a book: as the rules see them, and as columns of numbers. Definitions only.
pub mod Layout
pub mod Bridge
pub mod Columns
pub mod Passes
pub mod HourSteps
pub mod WorkedBooks
