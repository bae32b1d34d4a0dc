pub mod Connections
pub mod Given
