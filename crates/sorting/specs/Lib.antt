pub mod Order
pub mod Counts
