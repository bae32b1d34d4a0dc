pub mod Lent
pub mod Splice
pub mod Drawing
