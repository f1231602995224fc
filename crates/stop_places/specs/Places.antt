-- Where the stops of a feed stand. `vertex_of` gives of an id the vertex that a table gives to it, or None.
--     IsNearPlace near lat lon place              the vertex nearest to a place, or None where there are no points or no coordinates
--     IsPlace vertex_of near stop place           the vertex of a stop: the one that is given to it, and else the nearest
--     ArePlaced vertex_of near stops placed       the stops at their vertices, in their order
--     IsNoPlaceRefusal vertex_of near stops r     the first stop that has no place, by its row in stops.txt
--     IsPlaceRefusal stops nodes bytes near r     the first broken rule of stop_nodes.txt, and else the first stop that has no place
use Rattle.std.specs.Prelude.{◌≡◌, ◌<◌, ◌⊎◌, ℕ, ℤ, List, length, slice_get, Option, Some, None}
use Rattle.gtfs_feed.specs.declared.feed.FeedStop.{FeedStop}
use Rattle.move_model.specs.declared.network.NodeNo.{NodeNo}
use Rattle.move_model.specs.declared.network.Stop.{Stop}
use Rattle.move_model.specs.declared.refusal.Cause.TheVariants as cause
use Rattle.move_model.specs.declared.refusal.FileKind.TheVariants as file
use Rattle.move_model.specs.declared.refusal.Refusal.{Refusal}
use Rattle.stop_match.specs.Nearest.{IsNearest}
use Rattle.stop_places.specs.declared.near.Near.{Near}
use Rattle.stop_places.specs.Table.{TableAccepted, TableRefused, table_vertex}

abbrev pub IsNearPlace : Option Near → Option ℤ → Option ℤ → Option NodeNo → Type 0
IsNearPlace None lat lon place = place ≡ None
IsNearPlace (Some near) None lon place = place ≡ None
IsNearPlace (Some near) (Some lat) None place = place ≡ None
IsNearPlace (Some near) (Some lat) (Some lon) None = ⊥
IsNearPlace (Some near) (Some lat) (Some lon) (Some v) = IsNearest near.grid.now lat lon near.scale v

-- by the vertex that is given to the stop, or None
abbrev pub IsPlaceBy : Option NodeNo → Option Near → FeedStop → Option NodeNo → Type 0
IsPlaceBy None near stop place = IsNearPlace near stop.lat stop.lon place
IsPlaceBy (Some v) near stop place = place ≡ Some v

abbrev pub IsPlace : (List ℕ → Option NodeNo) → Option Near → FeedStop → Option NodeNo → Type 0
IsPlace vertex_of near stop place = IsPlaceBy (vertex_of stop.name) near stop place

-- the stop of the feed, at its vertex
pub record IsPlacedStop (vertex_of : List ℕ → Option NodeNo) (near : Option Near) (stop : FeedStop) (placed : Stop) : Type 0 where
  pub named : placed.name ≡ stop.name
  pub stands : IsPlace vertex_of near stop (Some placed.node)

pub record ArePlaced (vertex_of : List ℕ → Option NodeNo) (near : Option Near) (stops : List FeedStop) (placed : List Stop) : Type 0 where
  pub as_many : length placed ≡ length stops
  pub each : (i : ℕ) (stop : FeedStop) (at : Stop) → slice_get stops i ≡ Some stop → slice_get placed i ≡ Some at → IsPlacedStop vertex_of near stop at

-- the stop has no place, and each stop before it has one
pub record IsNoPlaceRefusal (vertex_of : List ℕ → Option NodeNo) (near : Option Near) (stops : List FeedStop) (r : Refusal) : Type 0 where
  pub place : ℕ
  pub stop : FeedStop
  pub there : slice_get stops place ≡ Some stop
  pub none : IsPlace vertex_of near stop None
  pub earlier : (i : ℕ) (other : FeedStop) → i < place → slice_get stops i ≡ Some other → (v : NodeNo) × IsPlace vertex_of near other (Some v)
  pub of_row : r ≡ record { file = file.Stops; row = stop.row; cause = cause.NoPlace }

-- the rules of the table come first
abbrev pub IsPlaceRefusal : List FeedStop → ℕ → Option (List ℕ) → Option Near → Refusal → Type 0
IsPlaceRefusal stops nodes bytes near r =
    ((r.file ≡ file.StopNodes) × TableRefused stops nodes bytes r.row r.cause)
    ⊎ (TableAccepted stops nodes bytes × IsNoPlaceRefusal (table_vertex bytes) near stops r)
