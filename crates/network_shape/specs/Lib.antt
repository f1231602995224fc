pub mod Search
pub mod Made
pub mod Met
pub mod Pairs
