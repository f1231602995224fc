pub mod RuleLemmas
pub mod RankLemmas
pub mod FaultLemmas
