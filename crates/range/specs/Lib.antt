-- The price range of a list of uncertain steps. Definitions only.
pub mod Layout
pub mod Range
pub mod Corners
