pub mod Summary
pub mod Few
pub mod Text
pub mod Room
