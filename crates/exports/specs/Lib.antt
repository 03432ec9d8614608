-- The calls for other languages: answers as numbers and bytes. Definitions only.
pub mod Parts
