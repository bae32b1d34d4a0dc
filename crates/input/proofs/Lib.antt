pub mod Lines
pub mod Whole
pub mod Holding
pub mod Instances
