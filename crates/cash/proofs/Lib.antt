-- The laws of the cash sheet of a book.
pub mod LineLaws
pub mod CashSheetLaws
pub mod WorkedCashLaws
