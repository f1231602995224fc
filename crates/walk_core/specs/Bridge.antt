-- What is kept while the arcs into a vertex and out of it are bridged.
--     view_of out into rank      the state
--     IsBuilt w                  the arcs fit, and each arc out between vertices that are left is an arc in as well
--     Grows old new              arcs that count stay, or become shorter
--     Real graph w               each arc stands for a list of streets
--     Spans w m p q s            a list of arcs leads from p to q round m in at most s seconds
--     PairDone, RowDone, AllDone      one pair of arcs, one arc in with all arcs out, all arcs in with all arcs out
use Rattle.std.specs.Prelude.{◌≡◌, ◌≢◌, ℕ, ◌+◌, ◌<◌, ◌≤◌, ◌⊎◌, List, [], length, slice_index_or, Contains}
use Rattle.move_model.specs.declared.network.Arc.{Arc}
use Rattle.move_model.specs.Streets.{Streets}
use Rattle.walk_laws.specs.declared.CoreArc.{CoreArc}
use Rattle.walk_laws.specs.Sums.{IsSum, IsStreet, View, HasArc, HasWithin, IsRest, rank_of, longest, last_rank}
use Rattle.walk_core.specs.Core.{HasDifferentEnds}
use Rattle.walk_core.specs.Row.{is_last}
use Rattle.walk_core.specs.Search.{Fits, Avoids}

abbrev pub view_of : List (List CoreArc) → List (List CoreArc) → List ℕ → View
view_of out into rank = record { out = out; into = into; rank = rank }

pub record IsBuilt (w : View) : Type 0 where
  pub out_fits : Fits w.out (length w.rank)
  pub into_fits : Fits w.into (length w.rank)
  pub mirrored : (p q l : ℕ) → IsRest w p q l → HasWithin w.into q p l
  pub out_ends : (v : ℕ) → HasDifferentEnds (slice_index_or w.out v [])
  pub into_ends : (v : ℕ) → HasDifferentEnds (slice_index_or w.into v [])

pub record Grows (old new : View) : Type 0 where
  pub rank : new.rank ≡ old.rank
  pub out_stays : (p q l : ℕ) → rank_of old p ≤ rank_of old q → HasArc old.out p q l → HasWithin new.out p q l
  pub into_stays : (p q l : ℕ) → rank_of old q ≤ rank_of old p → HasArc old.into q p l → HasWithin new.into q p l

pub record Real (graph : Streets) (w : View) : Type 0 where
  pub out : (p q l : ℕ) → HasArc w.out p q l → IsSum (IsStreet graph) p q l
  pub into : (p q l : ℕ) → HasArc w.into q p l → IsSum (IsStreet graph) p q l

pub record Spans (w : View) (m p q seconds : ℕ) : Type 0 where
  pub l : ℕ
  pub sum : IsSum (Avoids w.out w.rank m) p q l
  pub within : l ≤ seconds

-- an arc that bridges an arc in and an arc out
pub record IsBridge (rank : List ℕ) (m : ℕ) (ins outs : List CoreArc) (p q l middle : ℕ) : Type 0 where
  pub is_m : middle ≡ m
  pub from_left : is_last rank p
  pub to_left : is_last rank q
  pub first : CoreArc
  pub second : CoreArc
  pub first_in : Contains ins first
  pub second_in : Contains outs second
  pub first_to : first.to.0 ≡ p
  pub second_to : second.to.0 ≡ q
  pub total : l ≡ first.seconds + second.seconds

-- m, or contracted
abbrev pub IsFrozen : List ℕ → ℕ → ℕ → Type 0
IsFrozen rank m p = (p ≡ m) ⊎ (slice_index_or rank p last_rank < last_rank)

-- each arc stood there or bridges two, and the rows of m and of contracted vertices stay
pub record OnlyBridges (rank : List ℕ) (m : ℕ) (ins outs : List CoreArc) (old new : View) : Type 0 where
  pub out : (p : ℕ) (z : CoreArc) → Contains (slice_index_or new.out p []) z
      → Contains (slice_index_or old.out p []) z ⊎ IsBridge rank m ins outs p z.to.0 z.seconds z.middle.0
  pub into : (q : ℕ) (z : CoreArc) → Contains (slice_index_or new.into q []) z
      → Contains (slice_index_or old.into q []) z ⊎ IsBridge rank m ins outs z.to.0 q z.seconds z.middle.0
  pub frozen_out : (p : ℕ) → IsFrozen rank m p → slice_index_or new.out p [] ≡ slice_index_or old.out p []
  pub frozen_into : (p : ℕ) → IsFrozen rank m p → slice_index_or new.into p [] ≡ slice_index_or old.into p []

-- the pair needs no bridge, or has one
abbrev pub IsSpanned : View → ℕ → CoreArc → CoreArc → Type 0
IsSpanned w m x y = x.to.0 ≢ y.to.0 → x.seconds + y.seconds ≤ longest → Spans w m x.to.0 y.to.0 (x.seconds + y.seconds)

pub record PairDone (m : ℕ) (x y : CoreArc) (old new : View) : Type 0 where
  pub built : IsBuilt new
  pub grows : Grows old new
  pub real : (graph : Streets) → IsSum (IsStreet graph) x.to.0 m x.seconds → IsSum (IsStreet graph) m y.to.0 y.seconds → Real graph old → Real graph new
  pub spans : IsSpanned new m x y
  pub only : (ins outs : List CoreArc) → Contains ins x → Contains outs y → OnlyBridges new.rank m ins outs old new

-- the arc in and the first so many arcs out
pub record RowDone (m : ℕ) (x : CoreArc) (outs : List CoreArc) (many : ℕ) (old new : View) : Type 0 where
  pub built : IsBuilt new
  pub grows : Grows old new
  pub real : (graph : Streets) → IsSum (IsStreet graph) x.to.0 m x.seconds
      → ((k : ℕ) (d : CoreArc) → k < length outs → IsSum (IsStreet graph) m (slice_index_or outs k d).to.0 (slice_index_or outs k d).seconds)
      → Real graph old → Real graph new
  pub spans : (k : ℕ) (d : CoreArc) → k < many → IsSpanned new m x (slice_index_or outs k d)
  pub only : (ins : List CoreArc) → Contains ins x → OnlyBridges new.rank m ins outs old new

-- the first so many arcs in and all arcs out
pub record AllDone (m : ℕ) (ins outs : List CoreArc) (many : ℕ) (old new : View) : Type 0 where
  pub built : IsBuilt new
  pub grows : Grows old new
  pub real : (graph : Streets)
      → ((k : ℕ) (d : CoreArc) → k < length ins → IsSum (IsStreet graph) (slice_index_or ins k d).to.0 m (slice_index_or ins k d).seconds)
      → ((k : ℕ) (d : CoreArc) → k < length outs → IsSum (IsStreet graph) m (slice_index_or outs k d).to.0 (slice_index_or outs k d).seconds)
      → Real graph old → Real graph new
  pub spans : (k j : ℕ) (d : CoreArc) → k < many → j < length outs → IsSpanned new m (slice_index_or ins k d) (slice_index_or outs j d)
  pub only : OnlyBridges new.rank m ins outs old new

-- the other ends are left and not m
pub record AreOthers (rank : List ℕ) (m : ℕ) (arcs : List CoreArc) : Type 0 where
  pub left : (k : ℕ) (d : CoreArc) → k < length arcs → is_last rank (slice_index_or arcs k d).to.0
  pub other : (k : ℕ) (d : CoreArc) → k < length arcs → (slice_index_or arcs k d).to.0 ≢ m
  pub low : (k : ℕ) (d : CoreArc) → k < length arcs → (slice_index_or arcs k d).to.0 < length rank
  pub one : (k : ℕ) (d : CoreArc) → k < length arcs → 1 ≤ (slice_index_or arcs k d).to.0
  pub short : (k : ℕ) (d : CoreArc) → k < length arcs → (slice_index_or arcs k d).seconds ≤ longest

-- the vertices that are not left have ranks below the count
pub record IsCounted (rank : List ℕ) (count : ℕ) : Type 0 where
  pub below : (v : ℕ) → slice_index_or rank v last_rank < last_rank → slice_index_or rank v last_rank < count

-- all arcs are streets
pub record AllStreets (graph : Streets) (w : View) : Type 0 where
  pub out : (p : ℕ) (z : CoreArc) → Contains (slice_index_or w.out p []) z → (z.middle.0 ≡ 0) × IsStreet graph p z.to.0 z.seconds
  pub into : (q : ℕ) (z : CoreArc) → Contains (slice_index_or w.into q []) z → (z.middle.0 ≡ 0) × IsStreet graph z.to.0 q z.seconds

-- a street is laid
pub record StreetDone (arc : Arc) (old new : View) : Type 0 where
  pub built : IsBuilt new
  pub grows : Grows old new
  pub real : (graph : Streets) → IsStreet graph arc.from.0 arc.to.0 arc.seconds → Real graph old → Real graph new
  pub streets : (graph : Streets) → IsStreet graph arc.from.0 arc.to.0 arc.seconds → AllStreets graph old → AllStreets graph new
  pub stands : arc.from.0 ≢ arc.to.0 → HasWithin new.out arc.from.0 arc.to.0 arc.seconds

-- the first so many streets are laid
pub record StreetsDone (arcs : List Arc) (many : ℕ) (w : View) : Type 0 where
  pub built : IsBuilt w
  pub real : (graph : Streets) → graph.arcs ≡ arcs → Real graph w
  pub streets : (graph : Streets) → graph.arcs ≡ arcs → AllStreets graph w
  pub stands : (k : ℕ) (d : Arc) → k < many → (slice_index_or arcs k d).from.0 ≢ (slice_index_or arcs k d).to.0
      → HasWithin w.out (slice_index_or arcs k d).from.0 (slice_index_or arcs k d).to.0 (slice_index_or arcs k d).seconds

pub record IsUnranked (rank : List ℕ) : Type 0 where
  pub all : (v : ℕ) → is_last rank v
