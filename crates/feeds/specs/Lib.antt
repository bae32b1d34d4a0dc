pub mod Progress
pub mod Reading
