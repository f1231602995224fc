-- The state between two contractions.
--     contraction_of                     the core that contracts see
--     Rises w                            the arcs of contracted vertices lead to where was contracted later or not at all
--     IsClean w                          the arcs out of vertices that are left lead to such vertices
--     IsSound w contracted               what holds between two contractions, whatever the graph
--     IsRight graph w                    all distances are kept, and the arcs keep the rule on middles
--     IsStored nodes out into rank contracted    the lists of a core, which is that of some street graph
--     AreGone rank                       no vertex is left
--     CleansLeft rank old new            lists of vertices that are left lose arcs to contracted ones
--     IsFree rank keep many m            the vertex may be contracted next
--     Advances keep old new              from the one state to the other nothing is lost, and kept vertices stay
use Rattle.std.specs.Prelude.{◌≡◌, ℕ, ◌<◌, ◌≤◌, Bool, true, false, List, length, slice_index_or, Contains}
use Rattle.move_model.specs.declared.network.NodeNo.{NodeNo}
use Rattle.move_model.specs.Streets.{Streets}
use Rattle.walk_laws.specs.declared.CoreArc.{CoreArc}
use Rattle.walk_laws.specs.Sums.{View, HasArc, rank_of, last_rank, Keeps}
use Rattle.walk_core.specs.Core.{Contraction, HasDifferentEnds, IsContraction}
use Rattle.walk_core.specs.Row.{is_last}
use Rattle.walk_core.specs.Rows.{row_of}
use Rattle.walk_core.specs.Bridge.{view_of, IsBuilt}
use Rattle.walk_core.specs.Middles.{Ruled}
use Rattle.walk_core.specs.Ranks.{IsOrdered, AreRanks}

abbrev pub contraction_of : ℕ → List (List CoreArc) → List (List CoreArc) → List ℕ → List NodeNo → Contraction
contraction_of nodes out into rank contracted =
    record { nodes = nodes; contracted = contracted; ranks = rank; arcs_out = out; arcs_into = into }

pub record Rises (w : View) : Type 0 where
  pub up : (p q l : ℕ) → rank_of w p < last_rank → HasArc w.out p q l → rank_of w p < rank_of w q
  pub down : (p q l : ℕ) → rank_of w q < last_rank → HasArc w.into q p l → rank_of w q < rank_of w p

pub record IsClean (w : View) : Type 0 where
  pub out : (p q l : ℕ) → is_last w.rank p → HasArc w.out p q l → is_last w.rank q

pub record IsSound (w : View) (contracted : List NodeNo) : Type 0 where
  pub built : IsBuilt w
  pub rises : Rises w
  pub ordered : IsOrdered w.rank contracted

pub record IsRight (graph : Streets) (w : View) : Type 0 where
  pub keeps : Keeps graph w
  pub ruled : Ruled graph w

pub record IsStored (nodes : ℕ) (out into : List (List CoreArc)) (rank : List ℕ) (contracted : List NodeNo) : Type 0 where
  pub ranks : AreRanks nodes rank contracted
  pub sound : IsSound (view_of out into rank) contracted
  pub graph : Streets
  pub contraction : IsContraction graph (contraction_of nodes out into rank contracted)

pub record AreGone (rank : List ℕ) : Type 0 where
  pub each : (v : ℕ) → 1 ≤ v → v < length rank → slice_index_or rank v last_rank < last_rank

pub record CleansLeft (rank : List ℕ) (old new : List (List CoreArc)) : Type 0 where
  pub many : length new ≡ length old
  pub frozen : (v : ℕ) → slice_index_or rank v last_rank < last_rank → row_of new v ≡ row_of old v
  pub only : (v : ℕ) (x : CoreArc) → Contains (row_of new v) x → Contains (row_of old v) x
  pub stays : (v : ℕ) (x : CoreArc) → Contains (row_of old v) x → is_last rank x.to.0 → Contains (row_of new v) x
  pub ends : (v : ℕ) → HasDifferentEnds (row_of old v) → HasDifferentEnds (row_of new v)

pub record Advances (keep : List Bool) (old new : View) : Type 0 where
  pub right : (graph : Streets) → IsRight graph old → IsRight graph new
  pub many : length new.rank ≡ length old.rank
  pub kept : (v : ℕ) → slice_index_or keep v false ≡ true → is_last old.rank v → is_last new.rank v

-- the vertex may be contracted as the next one, where so many were before
pub record IsFree (rank : List ℕ) (keep : List Bool) (many m : ℕ) : Type 0 where
  pub one : 1 ≤ m
  pub low : m < length rank
  pub left : is_last rank m
  pub free : slice_index_or keep m false ≡ false
  pub room : many < length rank
