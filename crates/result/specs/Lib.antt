-- The result of a clearing in bytes, and what a clearing promises. Definitions only.
pub mod Layout
pub mod Result
pub mod Rows
pub mod Promise
pub mod CashRecords
pub mod WorkedResult
