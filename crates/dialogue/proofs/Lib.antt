pub mod Talks
pub mod Rounds
