pub mod Heads
pub mod Awaiting
