-- Whether a branch of the search has a rival: what a rival is, and what the tests of one promise. Definitions only.
pub mod Rivals
pub mod Tests
