-- The lists of calls, one for each trip, that are made of the rows of stop_times.txt.
--     rows_in table                                 the rows of stops.txt that a table of stops holds
--     GrowsByCall old new trip call                 the list of one trip grows by a call
--     GrowsByRow old new c stops trips n row        the list of the row's trip grows by its call
--     AreCallsOf stops trips bytes kept             the calls of each trip
use Rattle.std.specs.Prelude.{◌≡◌, ℕ, ◌<◌, ◌==◌, List, [], ◌∷◌, ◌++◌, length, slice_index_or, Vec, if◌then◌else◌}
use Rattle.std.specs.declared.alloc.Global.{Global}
use Rattle.trip_calls.specs.declared.kept.KeptCall.{KeptCall}
use Rattle.gtfs_feed.specs.declared.calls.CallColumns.{CallColumns}
use Rattle.gtfs_feed.specs.declared.stops.StopTable.{StopTable}
use Rattle.gtfs_feed.specs.Calls.{StopRows, calls_of_row, trip_calls}

abbrev pub rows_in : StopTable → StopRows
rows_in table = record { ids = table.names; numbers = table.numbers }

abbrev pub GrowsByCall : List (Vec KeptCall Global) → List (Vec KeptCall Global) → ℕ → KeptCall → Type 0
GrowsByCall old new trip call = (k : ℕ) (d : Vec KeptCall Global) → k < length old
    → (slice_index_or new k d).items ≡ (slice_index_or old k d).items ++ (if trip == k then call ∷ [] else [])

abbrev pub GrowsByRow : List (Vec KeptCall Global) → List (Vec KeptCall Global) → CallColumns → StopRows → List (List ℕ) → ℕ → List (List ℕ) → Type 0
GrowsByRow old new c stops trips number row = (k : ℕ) (d : Vec KeptCall Global) → k < length old
    → (slice_index_or new k d).items ≡ (slice_index_or old k d).items ++ calls_of_row c stops trips k number row

abbrev pub AreCallsOf : StopRows → List (List ℕ) → List ℕ → List (Vec KeptCall Global) → Type 0
AreCallsOf stops trips bytes kept = (k : ℕ) (d : Vec KeptCall Global) → k < length kept → (slice_index_or kept k d).items ≡ trip_calls stops trips bytes k
