pub mod Seeds
pub mod Window
pub mod Profile
