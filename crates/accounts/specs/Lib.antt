-- The accounts of a book's portfolios. Definitions only.
pub mod Layout
pub mod Accounts
pub mod Postings
