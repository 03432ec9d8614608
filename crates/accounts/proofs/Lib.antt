-- The laws of the accounts of a book's portfolios.
pub mod PostingLaws
pub mod WalkLaws
pub mod FigureLaws
pub mod AccountLaws
