-- The laws that the functions' proofs and the layers above cite; each function's own proof stands in its folder.
pub mod Refused
pub mod StepLimits
pub mod Accepted
pub mod RecordSums
