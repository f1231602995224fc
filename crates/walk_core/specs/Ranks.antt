-- The ranks of vertices: the place of each in the order of the contraction, or the greatest number for one that is left.
--     IsPlaced rank place v              v is a vertex with this rank
--     IsOrdered rank contracted          the rank of a contracted vertex is its place in the list
--     AreRanks nodes rank contracted     there is a rank for each vertex
use Rattle.std.specs.Prelude.{◌≡◌, ℕ, ◌+◌, ◌<◌, ◌≤◌, List, length, slice_get, slice_index_or, Some}
use Rattle.move_model.specs.declared.network.NodeNo.{NodeNo}
use Rattle.walk_laws.specs.Sums.{last_rank}

-- the vertex is one of the list, and this is its place
pub record IsPlaced (rank : List ℕ) (place : ℕ) (v : NodeNo) : Type 0 where
  pub rank_is : slice_index_or rank v.0 last_rank ≡ place
  pub from_one : 1 ≤ v.0
  pub low : v.0 < length rank

pub record IsOrdered (rank : List ℕ) (contracted : List NodeNo) : Type 0 where
  pub place : (v : ℕ) → slice_index_or rank v last_rank < last_rank → slice_get contracted (slice_index_or rank v last_rank) ≡ Some (record { 0 = v })
  pub back : (k : ℕ) (v : NodeNo) → slice_get contracted k ≡ Some v → IsPlaced rank k v
  pub ranks : (v : ℕ) → slice_index_or rank v last_rank ≤ last_rank
  pub few : length contracted ≤ length rank
  pub small : length rank < last_rank

-- the vertices are numbered from 1
pub record AreRanks (nodes : ℕ) (rank : List ℕ) (contracted : List NodeNo) : Type 0 where
  pub many : length rank ≡ nodes + 1
  pub ordered : IsOrdered rank contracted
