mod Lists
mod RideLemmas
mod ChangeLemmas
mod NeededLemmas
mod OrderLemmas
