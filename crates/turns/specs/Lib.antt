pub mod Turns
pub mod Worked
