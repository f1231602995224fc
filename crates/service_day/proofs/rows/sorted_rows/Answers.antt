use Rattle.std.proofs.Common.{rules, ap, ◌∙◌}
use Rattle.std.proofs.lemmas.List.Sorted.{IsNonDecreasingBy-from_sort_by_key, answers_always}
use Rattle.gtfs_feed.specs.declared.feed.CopyRow.{CopyRow}
use Rattle.service_day.specs.DayTrips.{rows_of}
use Rattle.service_day.proofs.RowLemmas.{rows_of-stable}
use Rattle.service_day.proofs.rows.sorted_rows.Goals as goal

pub returns-clause-sorted : goal.returns-clause-sorted
returns-clause-sorted c = IsNonDecreasingBy-from_sort_by_key (λ (row : CopyRow). row.trip) _ c.in_ok-sort_by_key.ensures.sorted (λ a r q k. search rules)

pub returns-clause-same : goal.returns-clause-same
returns-clause-same c = λ place.
    rows_of-stable _ _ (c.in_ok-sort_by_key.ensures.stable (λ (row : CopyRow). row.trip) (answers_always _ _ _ (λ f a r q k. search rules))) place
    ∙ ap (rows_of place) c.in_ok-sorted.ensures.items
