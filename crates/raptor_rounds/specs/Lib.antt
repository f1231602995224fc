pub mod Answers
pub mod Sparse
pub mod Ways
pub mod Labels
pub mod Least
