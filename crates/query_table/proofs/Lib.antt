pub mod Numbers
pub mod RowValues
pub mod Files
pub mod Sound
pub mod Outcome
