pub mod Coordinate
pub mod Date
