-- What each block of a book gains. Definitions only.
pub mod Gains
