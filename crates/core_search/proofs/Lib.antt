pub mod OrderLemmas
pub mod WaitLemmas
pub mod StoreLemmas
pub mod SettleLemmas
pub mod SpreadLemmas
