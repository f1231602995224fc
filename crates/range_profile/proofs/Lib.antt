pub mod SeedLemmas
pub mod WindowLemmas
pub mod ProfileLemmas
