pub mod Compiled
pub mod Storable
