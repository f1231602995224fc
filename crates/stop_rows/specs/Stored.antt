-- How the table is stored.
--     rows_of nodes places rows          what contracts see
--     IsStored nodes places stops rows   as many rows and lists of stops as places, each row as long
use Rattle.std.specs.Prelude.{◌≡◌, ℕ, ◌<◌, ◌^◌, List, [], length, slice_index_or, All}
use Rattle.move_model.specs.declared.network.NodeNo.{NodeNo}
use Rattle.move_model.specs.declared.network.StopNo.{StopNo}
use Rattle.stop_rows.specs.Rows.{Rows}
use Rattle.stop_rows.specs.Places.{AreStopsAt}

abbrev pub rows_of : List NodeNo → List ℕ → List (List ℕ) → Rows
rows_of nodes places rows = record { nodes = nodes; places = places; seconds = rows }

pub record IsStored (nodes : List NodeNo) (places : List ℕ) (stops : List (List StopNo)) (rows : List (List ℕ)) : Type 0 where
  pub few : length nodes < 2 ^ 32
  pub few_stops : length places < 2 ^ 32
  pub within : All (λ p. p < length nodes) places
  pub lists : length stops ≡ length nodes
  pub stops_at : (p : ℕ) → p < length nodes → AreStopsAt places p (slice_index_or stops p [])
  pub many : length rows ≡ length nodes
  pub wide : (p : ℕ) → p < length nodes → length (slice_index_or rows p []) ≡ length nodes
