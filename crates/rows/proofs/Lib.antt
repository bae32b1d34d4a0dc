pub mod Checking
pub mod Zeros
