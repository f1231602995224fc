pub mod FrontLemmas
pub mod SectionCodecs
pub mod NetworkCodecs
