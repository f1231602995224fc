pub mod Words
pub mod Sent
