pub mod Row
pub mod Ridden
pub mod Levels
pub mod Answer
