pub mod Point
pub mod Gains
pub mod Found
