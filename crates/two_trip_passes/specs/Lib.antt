pub mod Stops
pub mod Walks
pub mod Rides
pub mod Own
pub mod Step
pub mod Read
