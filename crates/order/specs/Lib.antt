-- Another order of the blocks for the search: what an order is and the columns in it; which order is chosen; what private functions write. Definitions only.
pub mod Order
pub mod Chosen
pub mod Written
