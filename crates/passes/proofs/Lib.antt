-- Laws of the passes: a whole pass, by number and in another order; the columns of the blocks in another order.
pub mod PassLaws
pub mod ReorderedLaws
