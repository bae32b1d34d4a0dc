pub mod Opened
pub mod Timed
