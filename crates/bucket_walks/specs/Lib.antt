pub mod Starts
pub mod Slim
pub mod Twins
pub mod Scan
pub mod Index
pub mod Gathered
pub mod Buckets
pub mod Stored
