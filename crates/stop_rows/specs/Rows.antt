-- The distances between the vertices at which stops stand, as rows of seconds.
--     Rows                       the places, each a vertex, the place of each stop, and a row of each place
--     place_at rows x            the place of the stop x
--     entry rows p q             the seconds of the row of the place p at the place q
--     never                      stands for no distance
--     last_second                no ride departs later
--     IsEntry g a b m            m is the distance from a to b, or never where there is none by the last second
--     ArePlaces n rows           the places are the vertices at which stops stand, and each stop has the place of its vertex
--     HoldsRows n rows           the rows have the distances between all places
use Rattle.std.specs.Prelude.{◌≡◌, ◌≢◌, ◌↔◌, ℕ, ◌<◌, ◌≤◌, List, [], length, slice_get, slice_index, slice_index_or, Some}
use Rattle.std.specs.List.{AllAdjacentBelow}
use Rattle.move_model.specs.declared.network.Network.{Network}
use Rattle.move_model.specs.declared.network.NodeNo.{NodeNo}
use Rattle.move_model.specs.declared.network.StopNo.{StopNo}
use Rattle.move_model.specs.Network.{streets, node_of}
use Rattle.move_model.specs.Streets.{Streets, IsDistance}

-- As many rows as places, and as many seconds in each.
pub record Rows : Type 0 where
  pub nodes : List NodeNo
  pub places : List ℕ
  pub seconds : List (List ℕ)

abbrev pub place_at : Rows → StopNo → ℕ
place_at rows x = slice_index rows.places x.0

abbrev pub entry : Rows → ℕ → ℕ → ℕ
entry rows p q = slice_index (slice_index_or rows.seconds p []) q

abbrev pub never : ℕ
never = 4294967295

abbrev pub last_second : ℕ
last_second = 3599999

-- other than never exactly where there is a distance of at most the last second, and then that distance
pub record IsEntry (g : Streets) (a b : NodeNo) (m : ℕ) : Type 0 where
  pub exact : (k : ℕ) → ((m ≡ k) × (m ≢ never)) ↔ (IsDistance g a b k × (k ≤ last_second))

-- some stop stands at the vertex
pub record HasStop (n : Network) (v : NodeNo) : Type 0 where
  pub stop : StopNo
  pub exists : stop.0 < length n.stops
  pub stands : node_of n stop ≡ v

-- by rising vertex, each once
pub record ArePlaces (n : Network) (rows : Rows) : Type 0 where
  pub rising : AllAdjacentBelow (λ v w. v.0 < w.0) rows.nodes (length rows.nodes)
  pub has_stop : (p : ℕ) (v : NodeNo) → slice_get rows.nodes p ≡ Some v → HasStop n v
  pub one_each : length rows.places ≡ length n.stops
  pub stands : (x : StopNo) → x.0 < length n.stops → slice_get rows.nodes (place_at rows x) ≡ Some (node_of n x)

-- the distances from a to the vertices of the places
abbrev pub HoldsRow : Streets → NodeNo → List NodeNo → List ℕ → Type 0
HoldsRow g a nodes row = (q : ℕ) (b : NodeNo) → slice_get nodes q ≡ Some b → IsEntry g a b (slice_index row q)

pub record HoldsRows (n : Network) (rows : Rows) : Type 0 where
  pub places : ArePlaces n rows
  pub distances : (p q : ℕ) (a b : NodeNo) → slice_get rows.nodes p ≡ Some a → slice_get rows.nodes q ≡ Some b
      → IsEntry (streets n) a b (entry rows p q)
