-- The auction's rules, as documents 01 and 02 state them. Definitions only, in reading order.
pub mod Orders
pub mod Hour
pub mod Shift
pub mod Execution
pub mod Day
pub mod Outcome
pub mod Contender
pub mod OutcomeRules
pub mod Families
pub mod Cash
pub mod SharingRules
pub mod Uncertain
pub mod WorkedDays
pub mod WorkedFamilies
pub mod WorkedCash
pub mod Cases
