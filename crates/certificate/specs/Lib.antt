pub mod Lists
pub mod Telling
