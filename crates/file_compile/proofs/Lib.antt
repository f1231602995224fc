mod StorableLemmas
mod FileLemmas
