-- Pricing one hour: its columns and N, and what a pricing call answers. Definitions only.
pub mod Curves
pub mod Answers
