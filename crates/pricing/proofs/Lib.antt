-- Laws of pricing.
pub mod TotalsLaws
pub mod TradeLaws
pub mod TraderLaws
pub mod EndLaws
pub mod AnswerLaws
pub mod TradedLaws
pub mod CallLaws
pub mod SameNetLaws
