pub mod Calls
pub mod Ended
