pub mod Knowledge
pub mod Turns
pub mod Verdicts
