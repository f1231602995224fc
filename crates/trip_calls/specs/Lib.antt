pub mod CallRules
pub mod Filled
pub mod Order
