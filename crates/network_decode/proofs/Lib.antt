pub mod ChainLemmas
pub mod AgreeLemmas
pub mod BeginLemmas
pub mod BrokenLemmas
pub mod PartLemmas
pub mod FileLemmas
