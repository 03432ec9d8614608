-- What a reader of this crate must believe, beside document 01: definitions alone. The laws about them stand in proofs/.
pub mod Bounds
pub mod Refusals
pub mod Numbers
pub mod Answers
pub mod Passes
