-- The chains of a book and the causes of refusal along them: definitions alone. The laws about them stand in proofs/.
pub mod Bounds
pub mod Chains
pub mod Causes
pub mod Passes
