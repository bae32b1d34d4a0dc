pub mod Visited
pub mod Invariant
pub mod Passes
