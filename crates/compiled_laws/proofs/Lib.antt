pub mod Lists
pub mod Rows
pub mod Best
pub mod Travelling
pub mod Points
pub mod Ranges
pub mod Transfers
pub mod Others
