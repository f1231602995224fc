-- Counts of one answer that can be added up.
--     IsFew counts               no sum of twenty such counts passes 64 bits
use Rattle.std.specs.Prelude.{◌≤◌, ◌^◌}
use Rattle.city_summary.specs.declared.totals.Counts.{Counts}

pub record IsFew (counts : Counts) : Type 0 where
  pub pairs : counts.pairs ≤ 2 ^ 16
  pub spans : counts.spans ≤ 2 ^ 16
  pub arrivals : counts.arrivals ≤ 2 ^ 58
