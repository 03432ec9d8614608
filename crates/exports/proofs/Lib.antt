-- The laws that the calls' proofs cite; each call's own proof stands in its folder.
pub mod NumberLaws
pub mod BufferLaws
