pub mod IdLemmas
pub mod GivenLemmas
pub mod Files
pub mod Outcome
pub mod NearLemmas
pub mod PlaceLemmas
pub mod Placed
pub mod Exact
