pub mod Steady
pub mod Closes
pub mod Steps
pub mod Loop
