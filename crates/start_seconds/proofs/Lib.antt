pub mod OrderLemmas
pub mod NoteLemmas
