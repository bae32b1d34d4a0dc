pub mod Lines
pub mod Reading
pub mod RoundTrip
pub mod Texts
