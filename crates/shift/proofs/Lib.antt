-- Laws of a set's shift by columns.
pub mod ShiftedLaws
pub mod SideLaws
pub mod ChosenLaws
pub mod Cases
