-- The core, the table and the list of shortcuts of a value.
use Rattle.std.proofs.Common.{◌≡◌, ◌∙◌, ℕ, ◌<◌, List, length, map, sym, subst, arith}
use Rattle.std.specs.Prelude.{All, Contains}
use Rattle.std.proofs.lemmas.List.{length-map, get_or-map}
use Rattle.std.proofs.lemmas.List.Elements.{All-weaker, All-contains_itself}
use Rattle.move_model.specs.declared.network.Network.{Network}
use Rattle.move_model.specs.declared.network.NodeNo.{NodeNo}
use Rattle.move_model.specs.declared.network.Stop.{Stop}
use Rattle.move_model.specs.declared.journey.Shortcut.{Shortcut}
use Rattle.move_model.specs.Network.{streets, node_of}
use Rattle.move_model.specs.Check.{KeepsRules}
use Rattle.move_model.specs.Shortcut.{IsShortcut, IsShortcutList}
use Rattle.pareto_laws.proofs.DistanceBound.{distance_within_limits}
use Rattle.piece_laws.proofs.Starts.{shortcut_of as needed_shortcut}
use Rattle.shortcut_laws.specs.Pairs.{IsPairNeeded}
use Rattle.shortcut_laws.proofs.Needed.{stops_exist}
use Rattle.walk_laws.specs.Sums.{IsShort}
use Rattle.walk_core.specs.Core.{Contraction, Holds}
use Rattle.route_split.specs.Table.{Table}
use Rattle.route_split.specs.Calls.{IsTableOf}
use Rattle.route_split.proofs.OrderLemmas.{ride_forward}
use Rattle.network_file.specs.Compiled.{IsTimetableOf, IsTransfer, AreTransfers}

-- a core that holds the vertices of stops
pub stops_kept : (core : Contraction) (stops : List Stop) (keep : List NodeNo) → keep ≡ map (λ (s : Stop). s.node) stops → All (λ v. Holds core v) keep
    → All (λ (s : Stop). Holds core s.node) stops
stops_kept core stops keep e all k d lt =
    let node : Stop → NodeNo = λ s. s.node in
    let here : All (λ v. Holds core v) (map node stops) = subst (λ (vs : List NodeNo). All (λ v. Holds core v) vs) e all in
    subst (λ (v : NodeNo). Holds core v) (get_or-map node stops k d (node d) lt) (here k (node d) (omega (arith, lt, length-map stops node)))

module _ (n : Network) (rules : KeepsRules n) where
  pub short : IsShort (streets n)
  short = record {
    distances = λ a b m is. omega (arith, distance_within_limits (streets n) rules.network.streets_join rules.has_nodes.1 rules.arcs_short a b m is);
  }

  pub table_is : (table : Table) → IsTimetableOf n table → IsTableOf n table
  table_is table is = record {
    stops_are = is.stops;
    buffer_is = is.buffer;
    holds = is.rows;
    forward = λ ride on off rides. ride_forward n rules.network ride on off rides;
  }

  transfer : (s : Shortcut) → IsShortcut n s → IsTransfer (length n.stops) s
  transfer s is =
      let of = (needed_shortcut n s).0 is in
      let pair : IsPairNeeded n s.from s.to = record { u = of.u; z = of.z; needed = of.needed } in
      let stand = stops_exist n s.from s.to rules.network pair in
      record {
        from = stand.0;
        to = stand.1;
        different = λ same. is.candidate.walks (sym is.from_is ∙ same ∙ is.to_is);
        short = short.distances (node_of n s.from) (node_of n s.to) s.seconds is.seconds_are;
      }

  pub transfers : (list : List Shortcut) → IsShortcutList n list → AreTransfers (length n.stops) list
  transfers list is = record {
    each = All-weaker (Contains list) (IsTransfer (length n.stops)) (λ s has. transfer s ((is.exact s).0 has)) list (All-contains_itself list);
    rising = is.rising;
  }
