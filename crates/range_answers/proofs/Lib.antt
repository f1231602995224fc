mod PairLists
mod SpanLaws
mod CostLaws
mod FootLaws
