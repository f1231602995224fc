-- How buckets are stored.
--     IsStored b to_index from_index   b meets the rules, and its two lists are laid out for a search
use Rattle.std.specs.Prelude.{◌≡◌, ◌+◌, length}
use Rattle.bucket_walks.specs.declared.index.Index.{Index}
use Rattle.bucket_walks.specs.Buckets.{Parts, IsBuckets}
use Rattle.bucket_walks.specs.Index.{IsIndex, starts_in}

pub record IsStored (b : Parts) (to_index from_index : Index) : Type 0 where
  pub rules : IsBuckets b
  pub to : IsIndex b.to b.stops to_index
  pub to_each : length (starts_in to_index) ≡ b.nodes + 2
  pub from : IsIndex b.from b.stops from_index
  pub from_each : length (starts_in from_index) ≡ b.nodes + 2
