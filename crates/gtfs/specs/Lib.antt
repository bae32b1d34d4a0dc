pub mod Clock
pub mod StopTimes
pub mod Feed
pub mod Files
pub mod Rows
pub mod Conversions
