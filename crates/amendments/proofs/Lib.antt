pub mod StoredRow
pub mod Pushing
pub mod Replacing
pub mod ClosingUp
