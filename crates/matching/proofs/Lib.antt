pub mod Comparing
pub mod Certified
