-- A limit for a pass of the search: the laws of its safety, and of what its private functions answer.
pub mod GuessLaws
pub mod SetLaws
