pub mod Steps
pub mod Read
