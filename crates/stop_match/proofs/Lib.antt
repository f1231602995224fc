pub mod KeyLemmas
pub mod LevelLemmas
pub mod RisingLemmas
pub mod PlaceLemmas
pub mod NearestLemmas
