-- A search along rows, from one vertex.
--     HasHalf rows p q l         the row of p leads to q in l seconds
--     Climbs rows places         the rows lead to greater ranks alone, in few seconds
--     IsDone rows bound labels queue v s       v, of s seconds, waits, or its arcs are done, or s is not below the bound
--     IsSearch rows from bound labels queue    what holds between two steps of a search of what is below the bound
--     IsGoing rows from bound v s i labels queue   what holds while v, of s seconds, is left along the first i arcs of its row
--     IsOnward labels queue after then_waits   no label rises, and one that is new or lower waits
--     work_left labels queue     falls with each step
use Rattle.std.specs.Prelude.{◌≡◌, ◌≢◌, ℕ, ◌+◌, ◌-◌, ◌*◌, ◌<◌, ◌≤◌, ◌⊎◌, if◌then◌else◌, is_some, List, Option, Some, None, length, slice_index, slice_index_or, slice_set, take, drop, Contains}
use Rattle.std.specs.List.{sum_by}
use Rattle.move_model.specs.declared.network.NodeNo.{NodeNo}
use Rattle.walk_queue.specs.Keys.{key_at}
use Rattle.walk_hierarchy.specs.declared.labels.Label.{Label}
use Rattle.walk_hierarchy.specs.declared.rows.Half.{Half}
use Rattle.walk_hierarchy.specs.declared.rows.Rows.{Rows}
use Rattle.walk_laws.specs.Sums.{IsSum, longest}
use Rattle.walk_hierarchy.specs.Labels.{HasLabel, HasWithin, IsVia, lowers}

abbrev pub row_of : Rows → ℕ → List Half
row_of rows v =
    take (slice_index rows.first.items (v + 1) - slice_index rows.first.items v) (drop (slice_index rows.first.items v) rows.halves.items)

pub record HasHalf (rows : Rows) (p q l : ℕ) : Type 0 where
  pub middle : NodeNo
  pub exists : p + 1 < length rows.first.items
  pub stands : Contains (row_of rows p) (record { seconds = l; to = record { 0 = q }; middle = middle })

pub record Climbs (rows : Rows) (places : ℕ) : Type 0 where
  pub starts : length rows.first.items ≡ places + 1
  pub rises : (v : ℕ) → v < places → slice_index rows.first.items v ≤ slice_index rows.first.items (v + 1)
  pub within : (v : ℕ) → v < places → slice_index rows.first.items (v + 1) ≤ length rows.halves.items
  pub rank : ℕ → ℕ
  pub low : (v : ℕ) → rank v ≤ 2000000
  pub climbs : (p q l : ℕ) → HasHalf rows p q l → rank p < rank q
  pub short : (p q l : ℕ) → HasHalf rows p q l → l ≤ longest
  pub ends : (p q l : ℕ) → HasHalf rows p q l → q < places

-- the vertex waits with the seconds of its label
abbrev pub Waits : List (Option ℕ) → ℕ → ℕ → Type 0
Waits queue v s = key_at queue v ≡ Some s

-- each arc from the vertex leads to a label that is no greater
abbrev pub IsClosed : Rows → List (Option Label) → ℕ → ℕ → Type 0
IsClosed rows labels v s = (q k : ℕ) → HasHalf rows v q k → HasWithin labels q (s + k)

-- whether or not every vertex is closed
pub record IsSound (rows : Rows) (from : ℕ) (labels : List (Option Label)) (queue : List (Option ℕ)) : Type 0 where
  pub room : length queue ≡ length labels
  pub sums : (v : ℕ) (x : Label) → HasLabel labels v x → IsSum (HasHalf rows) from v x.seconds
  pub comes : (v : ℕ) (x : Label) → HasLabel labels v x → ((v ≡ from) × (x.seconds ≡ 0)) ⊎ IsVia (HasHalf rows) labels v x
  pub start : HasWithin labels from 0
  pub waits : (v s : ℕ) → Waits queue v s → (x : Label) × (HasLabel labels v x × (x.seconds ≡ s))

abbrev pub IsDone : Rows → ℕ → List (Option Label) → List (Option ℕ) → ℕ → ℕ → Type 0
IsDone rows bound labels queue v s = Waits queue v s ⊎ (IsClosed rows labels v s ⊎ (bound ≤ s))

pub record IsSearch (rows : Rows) (from bound : ℕ) (labels : List (Option Label)) (queue : List (Option ℕ)) : Type 0 where
  pub sound : IsSound rows from labels queue
  pub closed : (v : ℕ) (x : Label) → HasLabel labels v x → IsDone rows bound labels queue v x.seconds

pub record IsGoing (rows : Rows) (from bound v s i : ℕ) (labels : List (Option Label)) (queue : List (Option ℕ)) : Type 0 where
  pub sound : IsSound rows from labels queue
  pub here : (x : Label) × (HasLabel labels v x × (x.seconds ≡ s))
  pub others : (u : ℕ) (x : Label) → u ≢ v → HasLabel labels u x → IsDone rows bound labels queue u x.seconds
  pub passed : (k : ℕ) (d : Half) → k < i → HasWithin labels (slice_index_or (row_of rows v) k d).to.0 (s + (slice_index_or (row_of rows v) k d).seconds)

pub record IsOnward (labels : List (Option Label)) (queue : List (Option ℕ)) (after : List (Option Label)) (then_waits : List (Option ℕ)) : Type 0 where
  pub falls : (u m : ℕ) → HasWithin labels u m → HasWithin after u m
  pub only : (u : ℕ) (y : Label) → HasLabel after u y
      → (HasLabel labels u y × ((k : ℕ) → Waits queue u k → Waits then_waits u k)) ⊎ Waits then_waits u y.seconds

abbrev pub weight : Option Label → ℕ
weight None = 18446744073709551616
weight (Some x) = x.seconds

abbrev pub waiting : {A : Type 0} → Option A → ℕ
waiting key = if is_some key then 1 else 0

abbrev pub work_left : {A : Type 0} → List (Option Label) → List (Option A) → ℕ
work_left labels queue = 2 * sum_by weight labels + sum_by waiting queue

-- what a label that comes to a vertex leaves
abbrev pub labels_with : List (Option Label) → ℕ → Label → List (Option Label)
labels_with labels v x = if lowers x (key_at labels v) then slice_set labels v (Some x) else labels

abbrev pub queue_with : List (Option Label) → List (Option ℕ) → ℕ → Label → List (Option ℕ)
queue_with labels queue v x = if lowers x (key_at labels v) then slice_set queue v (Some x.seconds) else queue
