pub mod Built
pub mod Leg
