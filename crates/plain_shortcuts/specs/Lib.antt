pub mod Rides
pub mod Walks
pub mod Changes
pub mod Needed
pub mod Listed
