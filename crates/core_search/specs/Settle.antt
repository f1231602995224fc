-- A search in which the least label that waits is settled, and then offered along the arcs of its vertex.
--     HasUpto settled waiting v x    a label of v, settled or waiting, is x or less
--     free settled                   how many entries have no label yet
--     IsSound core old settled waiting   each label is one of the old ones that came over the core, and so on: whether or not
--                                    all arcs were followed
--     IsSearch core old settled waiting  what holds between two steps: the arcs of settled vertices were followed
--     IsLeaving .. v x i             what holds while the first i arcs of v, of label x, were followed
--     IsOffered settled old new v x  the label x came to v: nothing changed where v is settled, else it waits or a lesser one
use Rattle.std.specs.Prelude.{◌≡◌, ◌≢◌, ◌⊎◌, ℕ, ◌+◌, ◌*◌, ◌<◌, ◌≤◌, List, Option, Some, None, length, count_by, is_none, slice_index_or}
use Rattle.walk_laws.specs.Sums.{longest}
use Rattle.walk_laws.specs.declared.CoreArc.{CoreArc}
use Rattle.walk_core.specs.Core.{Contraction, IsCoreArc, core_row}
use Rattle.core_search.specs.declared.label.Label.{Label}
use Rattle.core_search.specs.Label.{IsUpto, after, label_at}
use Rattle.core_search.specs.Spread.{Comes, IsCoreWalk, most}
use Rattle.core_search.specs.Waiting.{IsPut}

pub record HasUpto (settled waiting : List (Option Label)) (v : ℕ) (x : Label) : Type 0 where
  pub y : Label
  pub held : (label_at settled v ≡ Some y) ⊎ (label_at waiting v ≡ Some y)
  pub upto : IsUpto y x

abbrev pub free : List (Option Label) → ℕ
free settled = count_by is_none settled

-- no label has more seconds before the last vertex is settled
abbrev pub bound : Contraction → ℕ
bound core = most + longest * (core.nodes + 1)

pub record IsSound (core : Contraction) (old settled waiting : List (Option Label)) : Type 0 where
  pub many : length settled ≡ core.nodes + 1
  pub many_wait : length waiting ≡ core.nodes + 1
  pub settled_come : (v : ℕ) (x : Label) → label_at settled v ≡ Some x → Comes (IsCoreWalk core) old v x
  pub waiting_come : (v : ℕ) (x : Label) → label_at waiting v ≡ Some x → Comes (IsCoreWalk core) old v x
  pub stood : (v : ℕ) (x : Label) → label_at old v ≡ Some x → HasUpto settled waiting v x
  pub in_order : (v u : ℕ) (x y : Label) → label_at settled v ≡ Some x → label_at waiting u ≡ Some y → IsUpto x y
  pub apart : (v : ℕ) (x y : Label) → label_at settled v ≡ Some x → label_at waiting v ≡ Some y → ⊥
  pub short : (v : ℕ) (x : Label) → label_at waiting v ≡ Some x → x.seconds + longest * free settled ≤ bound core

-- each arc leads to where a label is no greater
abbrev pub IsFollowed : Contraction → List (Option Label) → List (Option Label) → ℕ → Label → Type 0
IsFollowed core settled waiting v x = (q l : ℕ) → IsCoreArc core v q l → HasUpto settled waiting q (after x l)

pub record IsSearch (core : Contraction) (old settled waiting : List (Option Label)) : Type 0 where
  pub sound : IsSound core old settled waiting
  pub followed : (v : ℕ) (x : Label) → label_at settled v ≡ Some x → IsFollowed core settled waiting v x

pub record IsLeaving (core : Contraction) (old settled waiting : List (Option Label)) (v : ℕ) (x : Label) (i : ℕ) : Type 0 where
  pub sound : IsSound core old settled waiting
  pub here : label_at settled v ≡ Some x
  pub last : (u : ℕ) (y : Label) → label_at settled u ≡ Some y → IsUpto y x
  pub short : x.seconds + longest + longest * free settled ≤ bound core
  pub others : (u : ℕ) (y : Label) → u ≢ v → label_at settled u ≡ Some y → IsFollowed core settled waiting u y
  pub passed : (k : ℕ) (d : CoreArc) → k < i
      → HasUpto settled waiting (slice_index_or (core_row core v) k d).to.0 (after x (slice_index_or (core_row core v) k d).seconds)

pub data IsOffered (settled old new : List (Option Label)) (v : ℕ) (x : Label) : Type 0 where
  is_settled : (y : Label) → label_at settled v ≡ Some y → new ≡ old → IsOffered settled old new v x
  is_put : label_at settled v ≡ None → IsPut old new v x → IsOffered settled old new v x
