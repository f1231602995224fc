pub mod Hits
pub mod Levels
pub mod State
pub mod Lent
