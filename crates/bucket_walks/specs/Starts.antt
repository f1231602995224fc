-- Where the items of each vertex begin, in lists by rising vertex.
--     IsFirst nodes v place      so many of the vertices are before v, and stand first
--     AreStarts starts nodes     the first places of the vertices from 0 on
--     AreRows starts n           the items of each vertex stand among n items
--     nodes_of entries           the vertices of bucket entries
--     row_at starts items v      the items from the first place of v to that of the next vertex
use Rattle.std.specs.Prelude.{ℕ, ◌+◌, ◌-◌, ◌<◌, ◌≤◌, List, length, map, slice_index, take, drop}
use Rattle.bucket_walks.specs.declared.bucket.Bucket.{Bucket}

pub record IsFirst (nodes : List ℕ) (v place : ℕ) : Type 0 where
  pub within : place ≤ length nodes
  pub before : (i : ℕ) → i < place → slice_index nodes i < v
  pub from : (i : ℕ) → place ≤ i → i < length nodes → v ≤ slice_index nodes i

pub record AreStarts (starts nodes : List ℕ) : Type 0 where
  pub first : (v : ℕ) → v < length starts → IsFirst nodes v (slice_index starts v)

pub record AreRows (starts : List ℕ) (n : ℕ) : Type 0 where
  pub rises : (v : ℕ) → v + 1 < length starts → slice_index starts v ≤ slice_index starts (v + 1)
  pub within : (v : ℕ) → v + 1 < length starts → slice_index starts (v + 1) ≤ n

abbrev pub nodes_of : List Bucket → List ℕ
nodes_of entries = map (λ entry. entry.node.0) entries

abbrev pub row_at : {X : Type 0} → List ℕ → List X → ℕ → List X
row_at starts items v = take (slice_index starts (v + 1) - slice_index starts v) (drop (slice_index starts v) items)
