pub mod Tests
pub mod Order
pub mod Next
pub mod Rules
pub mod Accepted
pub mod Refusals
pub mod Answered
pub mod Example
