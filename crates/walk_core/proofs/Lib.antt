pub mod RowLemmas
pub mod LabelLemmas
pub mod BridgeLemmas
pub mod ContractLemmas
pub mod StreetLemmas
pub mod StateLemmas
pub mod CoreLemmas
pub mod RestLemmas
