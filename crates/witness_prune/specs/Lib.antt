pub mod Needed
pub mod Labels
pub mod Scratch
pub mod Search
pub mod TwoTrip
