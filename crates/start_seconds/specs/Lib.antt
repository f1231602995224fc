pub mod Starts
pub mod Noted
