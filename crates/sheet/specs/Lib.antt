-- The sheet: its text, and what the functions put into a buffer. Definitions only.
pub mod Sheet
pub mod Lines
pub mod WorkedSheet
