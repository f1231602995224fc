pub mod FaultLemmas
pub mod TimelyLemmas
pub mod PassedLemmas
pub mod OrderLemmas
pub mod ExactLemmas
pub mod HoldLemmas
pub mod FillLemmas
