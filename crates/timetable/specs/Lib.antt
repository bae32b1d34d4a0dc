pub mod File
pub mod Check
pub mod Room
pub mod Accepted
pub mod Refusals
