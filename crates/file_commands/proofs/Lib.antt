mod ReadLemmas
mod MigrateLemmas
