mod ArcLemmas
pub mod IndexLemmas
pub mod LegLemmas
mod RowLemmas
pub mod WritingLemmas
