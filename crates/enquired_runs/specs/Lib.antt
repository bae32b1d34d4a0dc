pub mod Enquiring
