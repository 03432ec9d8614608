-- The laws that the functions' proofs cite; each function's own proof stands in its folder.
pub mod Cases
pub mod RangeLaws
