pub mod SumLemmas
pub mod Step
pub mod Least
