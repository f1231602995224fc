pub mod Lists
pub mod Needed
