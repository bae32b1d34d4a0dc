pub mod Cut
pub mod Places
pub mod Pieces
pub mod Columns
