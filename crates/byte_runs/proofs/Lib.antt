pub mod Written
pub mod Enquiry
pub mod Runs
