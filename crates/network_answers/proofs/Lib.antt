pub mod GainLaws
pub mod FoundLaws
pub mod TickLaws
pub mod AskLaws
pub mod PointLaws
pub mod PairLaws
