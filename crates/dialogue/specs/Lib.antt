pub mod Talks
pub mod Room
pub mod Worked
