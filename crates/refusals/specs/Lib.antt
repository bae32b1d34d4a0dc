pub mod RefusalNumber
pub mod Answers
