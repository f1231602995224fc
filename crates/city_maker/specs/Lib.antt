pub mod Draws
pub mod Lines
pub mod Streets
pub mod Asked
pub mod Order
pub mod City
