-- A branch of the search: what it works on, which decisions are certain, and what its functions promise. Definitions only.
pub mod Tables
pub mod Decisions
pub mod Meaning
