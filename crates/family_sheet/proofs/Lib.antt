-- The laws of a book's family report, and of what is written of it.
pub mod FamilyReportLaws
pub mod FamilySheetLaws
