-- Bytes put into a buffer: words, and numbers in decimal. Definitions only.
pub mod Buffer
pub mod Text
