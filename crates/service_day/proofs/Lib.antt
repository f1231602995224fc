mod DayLemmas
mod ListLemmas
mod OrderLemmas
mod NightLemmas
mod StartLemmas
mod RowLemmas
pub mod GatherLemmas
mod BoundLemmas
mod NumberLemmas
mod ValidLemmas
