pub mod Value
pub mod Stop
pub mod Sections
