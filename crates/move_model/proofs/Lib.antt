mod WalkRowLemmas
mod DigitLemmas
mod CheckLemmas
