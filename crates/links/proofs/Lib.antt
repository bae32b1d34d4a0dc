pub mod Telling
pub mod Marks
