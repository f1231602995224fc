pub mod Day
pub mod Running
pub mod Order
pub mod DayTrips
pub mod Shift
pub mod Departure
