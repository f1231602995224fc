pub mod Nearest
pub mod Cell
pub mod Place
pub mod Levels
