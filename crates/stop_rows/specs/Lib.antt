pub mod Rows
pub mod Places
pub mod Stored
pub mod Row
