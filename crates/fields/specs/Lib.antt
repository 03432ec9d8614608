-- What a record by itself must be, and the hours on their day: definitions alone. The laws about them stand in proofs/.
pub mod Bounds
pub mod Hours
pub mod Tests
pub mod Ranges
