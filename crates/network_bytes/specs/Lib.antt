pub mod Bytes
pub mod Front
pub mod Forms
pub mod Fits
