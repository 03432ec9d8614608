-- The root prices: how many moves are made. Definitions only.
pub mod Roots
