-- Laws of the setup: the tables row by row, the blocks' columns, their rows and twins, and the day behind them.
pub mod SetupTableLaws
pub mod SetupBlockLaws
pub mod SetupTwinLaws
pub mod SetupLaws
