-- What makes a change needed.
--     HasArrivals n s z row      the row has the earliest arrivals with at most one ride from s at second z
--     ArrivesBy n s z v a        a journey with at most one ride arrives at v by second a
--     AreChanges n u z cs        these are all changes from u at second z
use Rattle.std.specs.Prelude.{◌↔◌, ℕ, ◌≤◌, List, Option, None, slice_index_or, Contains}
use Rattle.move_model.specs.declared.network.Network.{Network}
use Rattle.move_model.specs.declared.network.NodeNo.{NodeNo}
use Rattle.move_model.specs.declared.network.StopNo.{StopNo}
use Rattle.move_model.specs.Journey.{HasEarliest, HasArrival}
use Rattle.plain_shortcuts.specs.declared.changes.Change.{Change}
use Rattle.plain_shortcuts.specs.Changes.{IsChange}

pub record HasArrivals (n : Network) (s : NodeNo) (z : ℕ) (row : List (Option ℕ)) : Type 0 where
  pub each : (v : NodeNo) → HasEarliest n s z v 1 (slice_index_or row v.0 None)

pub record ArrivesBy (n : Network) (s : NodeNo) (z : ℕ) (v : NodeNo) (a : ℕ) : Type 0 where
  pub arrival : ℕ
  pub arrives : HasArrival n s z v 1 arrival
  pub no_later : arrival ≤ a

abbrev pub AreChanges : Network → StopNo → ℕ → List Change → Type 0
AreChanges n u z cs = (c : Change) → Contains cs c ↔ IsChange n u z c
