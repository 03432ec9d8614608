-- Small books, computed.
pub mod Cases
