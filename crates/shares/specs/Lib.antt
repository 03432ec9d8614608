-- The executed quantities of an hour out of columns. Definitions only.
pub mod Shares
