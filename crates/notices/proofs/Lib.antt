pub mod NextRow
pub mod Finding
pub mod Standing
