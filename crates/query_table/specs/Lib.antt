pub mod Places
pub mod Numbered
pub mod Rules
pub mod Row
pub mod Queries
