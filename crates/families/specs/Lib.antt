-- The families of a book's blocks: their gains and their lines. Definitions only.
pub mod Report
pub mod Visit
pub mod Lines
