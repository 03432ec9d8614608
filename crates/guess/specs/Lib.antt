-- A limit for a pass of the search: what is asked of its tables, and what its private functions answer. Definitions only.
pub mod Guess
pub mod Sets
pub mod Urgency
