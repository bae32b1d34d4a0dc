pub mod Labels
pub mod Room
