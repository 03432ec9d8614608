-- The tables of an hour. Definitions only.
pub mod Tables
