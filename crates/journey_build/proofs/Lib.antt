pub mod StopLemmas
pub mod BrokenLaws
pub mod WayLaws
