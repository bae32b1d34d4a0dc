pub mod TimetableRows
pub mod TimetableFile
pub mod RoundTrips
