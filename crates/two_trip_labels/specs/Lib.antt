pub mod First
pub mod Second
pub mod Walks
pub mod Closed
pub mod Fresh
