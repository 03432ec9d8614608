-- Laws of a rival: its branch, its tests, and that each lawful completion has one that costs less.
pub mod ReplayLaws
pub mod TestLaws
pub mod CheaperLaws
