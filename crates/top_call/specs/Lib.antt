pub mod Words
pub mod Reading
pub mod Answered
pub mod Status
pub mod Input
pub mod Turns
pub mod Rejected
