-- Laws of the executed quantities.
pub mod AmountLaws
pub mod PassLaws
pub mod ShareOutLaws
