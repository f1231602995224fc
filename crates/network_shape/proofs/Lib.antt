pub mod OrderLemmas
pub mod MadeLemmas
pub mod MetLemmas
