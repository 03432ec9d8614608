-- Laws of the root prices: how large their numbers get.
pub mod SizeLaws
