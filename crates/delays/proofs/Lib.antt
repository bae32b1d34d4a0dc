pub mod Walk
pub mod LentRows
