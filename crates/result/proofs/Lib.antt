-- Laws of the result: its bytes, and the promise read off them.
pub mod ByteLaws
pub mod RowLaws
pub mod ReadLaws
pub mod SizeLaws
pub mod RowsLaws
pub mod PromiseLaws
pub mod CashRecordLaws
pub mod WorkedResultLaws
pub mod SharingLaws
