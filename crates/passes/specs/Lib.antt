-- The passes of the search: what they promise. Definitions only.
pub mod Passes
