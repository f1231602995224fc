pub mod Front
pub mod Network
