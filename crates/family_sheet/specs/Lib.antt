-- The family report of a book as text. Definitions only.
pub mod FamilySheet
pub mod Lines
