-- Another order of the blocks for the search: the laws of names by place, of the test, of the columns, of sets by number, and of the chosen order.
pub mod NameLaws
pub mod TestLaws
pub mod ColumnLaws
pub mod NumberLaws
pub mod ChosenLaws
