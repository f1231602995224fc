pub mod Rules
pub mod Ids
pub mod Given
pub mod Table
pub mod Places
