pub mod Range
pub mod Spans
