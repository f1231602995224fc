pub mod TimesLemmas
pub mod FirstLemmas
pub mod SecondLemmas
