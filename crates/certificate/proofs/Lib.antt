pub mod Links
pub mod Changes
pub mod Whole
