pub mod Route
pub mod Table
pub mod Calls
pub mod Routes
pub mod Split
pub mod Fill
pub mod Chains
pub mod Jumps
