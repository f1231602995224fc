pub mod RideLemmas
pub mod LeadLemmas
pub mod OpenLemmas
pub mod SearchLemmas
