-- The laws of what each block of a book gains.
pub mod GainLaws
