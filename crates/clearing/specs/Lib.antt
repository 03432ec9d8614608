-- The publication out of columns. Definitions only. The result's bytes and the promise of the clearing are definitions of the crate `result`.
pub mod Publish
pub mod Clear
pub mod Front
