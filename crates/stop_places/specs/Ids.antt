-- The ids of stops, as names that were seen.
--     AreIdsOf names stops     the names are the ids of the stops
use Rattle.std.specs.Prelude.{◌≡◌, ℕ, List, is_some}
use Rattle.gtfs_feed.specs.declared.feed.FeedStop.{FeedStop}
use Rattle.tables.specs.Names.{place_of}
use Rattle.stop_places.specs.Rules.{stop_named}

abbrev pub AreIdsOf : List (List ℕ) → List FeedStop → Type 0
AreIdsOf names stops = (id : List ℕ) → is_some (place_of id names) ≡ is_some (stop_named id stops)
