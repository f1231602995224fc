pub mod Ranges
pub mod Numbers
pub mod StreetLists
pub mod Lists
pub mod Vertices
pub mod Riding
pub mod Rules
