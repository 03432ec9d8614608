-- The places of sets and branches in the search's tables: where the lists have what, and what the functions promise. Definitions only.
pub mod Layout
pub mod Hours
pub mod Blocks
pub mod Reach
pub mod Steps
