pub mod Filling
pub mod Delays
