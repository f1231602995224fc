pub mod DigitLemmas
pub mod DateLemmas
mod DayLemmas
