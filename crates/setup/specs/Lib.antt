-- The setup of the search: what its tables and columns hold. Definitions only.
pub mod Setup
