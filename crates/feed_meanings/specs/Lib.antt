pub mod Words
pub mod Texts
pub mod Imports
pub mod Exports
pub mod Calls
