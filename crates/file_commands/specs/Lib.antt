pub mod Held
pub mod Stop
