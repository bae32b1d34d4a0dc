pub mod Arrivals
pub mod Room
