pub mod Arrivals
pub mod Bounds
pub mod Sums
pub mod CountLaws
pub mod Rooms
