pub mod StopLemmas
pub mod WalkLemmas
pub mod RideLemmas
pub mod OwnLemmas
pub mod OwnTable
pub mod StepLemmas
pub mod ReadLemmas
pub mod NeededTable
