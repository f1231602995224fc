pub mod Arcs
pub mod Legs
pub mod Records
