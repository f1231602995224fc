-- Compiled networks.
--     IsTimetableOf n table      the table has the routes of the network's trips, and its stops and buffer
--     AreTransfers stops list    the entries join different stops, in rising order of their stops
--     FitTogether c              the parts of c belong to its network, whatever walks they tell of
--     GivesFirst n h b           the least sums of arcs up and an entry to a stop are the distances to the stops
--     GivesLast n h b            the least sums of an entry from a stop and arcs down are the distances from the stops
--     IsRight c                  the parts fit together, their sums are the distances, and the list is that of the shortcuts
use Rattle.std.specs.Prelude.{◌≡◌, ◌≢◌, ℕ, ◌<◌, ◌≤◌, List, [], ◌∷◌, map, length, All, Option}
use Rattle.std.specs.List.{AllAdjacentBelow}
use Rattle.move_model.specs.declared.network.Network.{Network}
use Rattle.move_model.specs.declared.network.NodeNo.{NodeNo}
use Rattle.move_model.specs.declared.network.StopNo.{StopNo}
use Rattle.move_model.specs.declared.journey.Shortcut.{Shortcut}
use Rattle.move_model.specs.Streets.{IsVertex, HasDistance}
use Rattle.move_model.specs.Network.{streets, node_of, IsNumbered}
use Rattle.move_model.specs.Check.{KeepsRules}
use Rattle.move_model.specs.Shortcut.{IsLess, IsShortcutList}
use Rattle.walk_laws.specs.Sums.{HasLeast, longest}
use Rattle.walk_hierarchy.specs.Hierarchy.{Parts as HierarchyParts, IsHierarchy, IsOver, GivesDistances}
use Rattle.bucket_walks.specs.Buckets.{Parts as BucketParts, IsBuckets, IsFirstSum, IsLastSum}
use Rattle.route_split.specs.Routes.{AreRoutes}
use Rattle.route_split.specs.Calls.{HoldsTrips}
use Rattle.route_split.specs.Table.{Table}
use Rattle.network_file.specs.declared.compiled.Compiled.{Compiled}

-- each route in its rows has the calls of its trips
pub record IsTimetableOf (n : Network) (table : Table) : Type 0 where
  pub stops : table.stops ≡ length n.stops
  pub buffer : table.buffer ≡ n.buffer
  pub routes : AreRoutes n.trips (map (λ route. route.trips) table.routes)
  pub rows : HoldsTrips n.trips table.routes

pub record IsTransfer (stops : ℕ) (entry : Shortcut) : Type 0 where
  pub from : entry.from.0 < stops
  pub to : entry.to.0 < stops
  pub different : entry.from ≢ entry.to
  pub short : entry.seconds ≤ longest

-- so each pair of stops has one entry at most
pub record AreTransfers (stops : ℕ) (list : List Shortcut) : Type 0 where
  pub each : All (IsTransfer stops) list
  pub rising : AllAdjacentBelow (λ a b. IsLess (a.from.0 ∷ a.to.0 ∷ []) (b.from.0 ∷ b.to.0 ∷ [])) list (length list)

-- the network keeps the rules, and the parts are for its streets, stops and trips
pub record FitTogether (c : Compiled) : Type 0 where
  pub rules : KeepsRules c.network
  pub numbered : IsNumbered c.network
  pub table : IsTimetableOf c.network c.table
  pub hierarchy : IsHierarchy c.hierarchy
  pub over : IsOver (streets c.network) c.hierarchy
  pub buckets : IsBuckets c.buckets
  pub same_nodes : c.buckets.nodes ≡ length c.hierarchy.ranks
  pub same_stops : c.buckets.stops ≡ length c.network.stops
  pub transfers : AreTransfers (length c.network.stops) c.shortcuts

-- from every vertex to every stop; None where there is no sum, and where there is no walk
abbrev pub GivesFirst : Network → HierarchyParts → BucketParts → Type 0
GivesFirst n h b =
    (a : NodeNo) (x : StopNo) (r : Option ℕ) → IsVertex (streets n) a → x.0 < length n.stops
    → HasLeast (IsFirstSum h b a x.0) r → HasDistance (streets n) a (node_of n x) r

-- from every stop to every vertex
abbrev pub GivesLast : Network → HierarchyParts → BucketParts → Type 0
GivesLast n h b =
    (x : StopNo) (t : NodeNo) (r : Option ℕ) → IsVertex (streets n) t → x.0 < length n.stops
    → HasLeast (λ m. IsLastSum h b x.0 t m) r → HasDistance (streets n) (node_of n x) t r

-- what the value says of walks and of transfers is true of its network
pub record IsRight (c : Compiled) : Type 0 where
  pub fits : FitTogether c
  pub walks : GivesDistances (streets c.network) c.hierarchy
  pub first : GivesFirst c.network c.hierarchy c.buckets
  pub last : GivesLast c.network c.hierarchy c.buckets
  pub shortcuts : IsShortcutList c.network c.shortcuts
