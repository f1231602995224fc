pub mod Table
pub mod Unread
pub mod Values
pub mod Names
