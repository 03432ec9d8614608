-- The laws of the families of a book.
pub mod VisitLaws
pub mod LineLaws
pub mod ReportLaws
