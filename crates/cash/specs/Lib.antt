-- The cash sheet of a book as text. Definitions only.
pub mod CashSheet
pub mod Lines
pub mod WorkedCash
