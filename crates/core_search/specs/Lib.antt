pub mod Label
pub mod Spread
pub mod Stored
pub mod Waiting
pub mod Settle
