pub mod Stores
pub mod Counts
pub mod Sorting
