-- A sweep along rows, from one place: the places that wait are taken in their order, and hold no seconds.
--     places_of queue            the places that wait, of a queue in which they have seconds
--     IsSweep rows from labels waiting     what holds between two steps: that of a search in which the same places wait
--     IsSweeping rows from v s i labels waiting   what holds while v, of s seconds, is left along the first i arcs of its row
--     waiting_with labels waiting v x      the places that wait, after a label that comes to a place
use Rattle.std.specs.Prelude.{◌≡◌, ℕ, if◌then◌else◌, List, Option, Some, map, slice_set}
use Rattle.std.specs.Option.{option_map}
use Rattle.walk_queue.specs.Keys.{key_at}
use Rattle.walk_hierarchy.specs.declared.labels.Label.{Label}
use Rattle.walk_hierarchy.specs.declared.rows.Rows.{Rows}
use Rattle.walk_hierarchy.specs.Labels.{lowers}
use Rattle.walk_hierarchy.specs.Search.{IsSearch, IsGoing}

abbrev pub place_only : Option ℕ → Option (Unit {0})
place_only key = option_map (λ s. tt) key

abbrev pub places_of : List (Option ℕ) → List (Option (Unit {0}))
places_of queue = map place_only queue

-- each place that waits would have the seconds of its label; no bound ends the search
pub record IsSweep (rows : Rows) (from : ℕ) (labels : List (Option Label)) (waiting : List (Option (Unit {0}))) : Type 0 where
  pub queue : List (Option ℕ)
  pub search : IsSearch rows from 18446744073709551615 labels queue
  pub same : waiting ≡ places_of queue

pub record IsSweeping (rows : Rows) (from v s i : ℕ) (labels : List (Option Label)) (waiting : List (Option (Unit {0}))) : Type 0 where
  pub queue : List (Option ℕ)
  pub going : IsGoing rows from 18446744073709551615 v s i labels queue
  pub same : waiting ≡ places_of queue

abbrev pub waiting_with : List (Option Label) → List (Option (Unit {0})) → ℕ → Label → List (Option (Unit {0}))
waiting_with labels waiting v x = if lowers x (key_at labels v) then slice_set waiting v (Some tt) else waiting
