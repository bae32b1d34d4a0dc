pub mod Signed
pub mod Lengths
pub mod Distinct
pub mod Instances
