-- The search over the blocks: what its functions promise. Definitions only.
pub mod Meaning
