pub mod Ranks
pub mod Middles
pub mod Core
pub mod Row
pub mod Rows
pub mod Search
pub mod Bridge
pub mod State
