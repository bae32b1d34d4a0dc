pub mod Asked
pub mod Room
