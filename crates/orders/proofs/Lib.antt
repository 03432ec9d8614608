-- Laws of the columns and of the bridge: ColumnLaws and GroupLaws serve the functions' proofs, the others the layers above.
pub mod ColumnLaws
pub mod GroupLaws
pub mod FrontLaws
pub mod RecordLaws
pub mod HourLaws
pub mod BridgeLaws
pub mod CashLaws
pub mod LinkLaws
pub mod PlaceLaws
pub mod WorkedBookLaws
