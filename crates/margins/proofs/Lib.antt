pub mod Signed
pub mod Asked
pub mod Margins
