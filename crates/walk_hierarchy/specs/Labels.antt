-- The labels of a search: an optional label for each vertex, from vertex 0.
--     HasLabel labels v x        the vertex v has the label x
--     HasWithin labels v m       the vertex v has a label of at most m seconds
--     IsVia arc labels v x       the label x of v came along an arc from a vertex with a label
--     IsLeastFrom arc from labels    the vertices with labels are those to which arcs lead, and the labels are least
--     AreSums arc from labels    each label is a sum, and came along an arc from another one unless it is the first
--     HasLeastLabel arc from labels v    the label of v is the least sum
--     Meets up down v m          two searches meet at v, with m seconds together
--     lowers x held              whether the label x has fewer seconds than the label held, or none is held
--     AreListed labels entries   the entries are the labels
--     label_of mark              the optional label that a mark stands for
--     IsTouched marks touched room   the touched vertices are those with labels, each once, with room for each vertex
use Rattle.std.specs.Prelude.{◌≡◌, ◌≢◌, ℕ, ◌+◌, ◌<◌, ◌≤◌, ◌⊎◌, Bool, true, nat_lt, if◌then◌else◌, List, Option, Some, None, length, slice_index_or, All, AllPairs, Contains, count_by}
use Rattle.move_model.specs.declared.network.NodeNo.{NodeNo}
use Rattle.walk_queue.specs.Keys.{key_at}
use Rattle.walk_hierarchy.specs.declared.labels.Label.{Label}
use Rattle.walk_hierarchy.specs.declared.settled.Settled.{Settled}
use Rattle.walk_laws.specs.Sums.{IsSum, IsLeast}

pub record HasLabel (labels : List (Option Label)) (v : ℕ) (x : Label) : Type 0 where
  pub is : key_at labels v ≡ Some x

pub record HasWithin (labels : List (Option Label)) (v m : ℕ) : Type 0 where
  pub x : Label
  pub label : HasLabel labels v x
  pub within : x.seconds ≤ m

-- the label x of v came along an arc from a vertex with a label
pub record IsVia (arc : ℕ → ℕ → ℕ → Type 0) (labels : List (Option Label)) (v : ℕ) (x : Label) : Type 0 where
  pub y : Label
  pub k : ℕ
  pub before : HasLabel labels x.parent.0 y
  pub leads : arc x.parent.0 v k
  pub within : y.seconds + k ≤ x.seconds

pub record IsLeastFrom (arc : ℕ → ℕ → ℕ → Type 0) (from : ℕ) (labels : List (Option Label)) : Type 0 where
  pub least : (v : ℕ) (x : Label) → HasLabel labels v x → IsLeast (IsSum arc from v) x.seconds
  pub all : (v m : ℕ) → IsSum arc from v m → HasWithin labels v m
  pub comes : (v : ℕ) (x : Label) → HasLabel labels v x → ((v ≡ from) × (x.seconds ≡ 0)) ⊎ IsVia arc labels v x

pub record AreSums (arc : ℕ → ℕ → ℕ → Type 0) (from : ℕ) (labels : List (Option Label)) : Type 0 where
  pub sums : (v : ℕ) (x : Label) → HasLabel labels v x → IsSum arc from v x.seconds
  pub comes : (v : ℕ) (x : Label) → HasLabel labels v x → ((v ≡ from) × (x.seconds ≡ 0)) ⊎ IsVia arc labels v x

pub record HasLeastLabel (arc : ℕ → ℕ → ℕ → Type 0) (from : ℕ) (labels : List (Option Label)) (v : ℕ) : Type 0 where
  pub x : Label
  pub has : HasLabel labels v x
  pub least : IsLeast (IsSum arc from v) x.seconds

-- some vertex has labels of a search up and of a search down, with these seconds together
pub record Meets (up down : List (Option Label)) (v seconds : ℕ) : Type 0 where
  pub x : Label
  pub y : Label
  pub there : HasLabel up v x
  pub back : HasLabel down v y
  pub total : x.seconds + y.seconds ≡ seconds

abbrev pub lowers : Label → Option Label → Bool
lowers x None = true
lowers x (Some held) = nat_lt x.seconds held.seconds

-- an entry for each label, and no other
pub record AreListed (labels : List (Option Label)) (entries : List Settled) : Type 0 where
  pub all : (v : ℕ) (x : Label) → HasLabel labels v x → Contains entries (record { node = record { 0 = v }; seconds = x.seconds })
  pub only : (v m : ℕ) → Contains entries (record { node = record { 0 = v }; seconds = m }) → (x : Label) × (HasLabel labels v x × (x.seconds ≡ m))
  pub once : AllPairs (λ entry other. entry.node ≢ other.node) entries

-- the greatest number of seconds stands for no label
abbrev pub is_label : Label → Bool
is_label mark = nat_lt mark.seconds 18446744073709551615

abbrev pub label_of : Label → Option Label
label_of mark = if is_label mark then Some mark else None

pub record IsTouched (marks : List Label) (touched : List NodeNo) (room : ℕ) : Type 0 where
  pub all : (v : ℕ) (d : Label) → v < length marks → is_label (slice_index_or marks v d) ≡ true → Contains touched (record { 0 = v })
  pub only : All (λ node. (node.0 < length marks) × ((d : Label) → is_label (slice_index_or marks node.0 d) ≡ true)) touched
  pub once : AllPairs (λ node other. node ≢ other) touched
  pub many : length touched ≡ count_by is_label marks
  pub enough : length marks ≤ room
