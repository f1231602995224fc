-- An accepted text gives a graph within the limits.
use Rattle.std.proofs.Common.{◌≡◌, ◌∙◌, ◌<◌, ◌≤◌, ℕ, suc, zero, List, [], ◌∷◌, ◌++◌, length, take, drop, get_or, Option, Some, None, refl, sym, ap, arith, add-one}
use Rattle.std.specs.Prelude.{All, if◌then◌else◌}
use Rattle.std.proofs.lemmas.List.{take_more, take_all, take-append-drop}
use Rattle.std.proofs.lemmas.List.Elements.{All-nil, All-append, All-weaker, All-from_recursion, All-same}
use Rattle.std.proofs.lemmas.Option.{slice_get_within, get_or_from_slice_get}
use Rattle.std.proofs.lemmas.Bool.Decides.{nat_tests}
use Rattle.move_model.specs.declared.network.Arc.{Arc as StreetArc}
use Rattle.move_model.specs.declared.refusal.Cause.{Cause}
use Rattle.move_model.specs.Streets.{IsVertex}
use Rattle.street_graph.specs.declared.gr.GrLine.{GrLine}
use Rattle.street_graph.specs.declared.gr.GrLine.TheVariants.{Skipped, Problem, Arc, Faulty}
use Rattle.street_graph.specs.declared.gr.Size.{Size}
use Rattle.street_graph.specs.declared.gr.Draft.{Draft}
use Rattle.refusals.specs.Refusal.{HoldAt}
use Rattle.street_graph.specs.Gr.{LinesHold, gr_rules, form_broken, nodes_broken, arcs_broken, from_broken, to_broken, seconds_broken, vertex_broken, is_within, size_of, first_some, arcs_in, arcs_of, IsSizeRow}
use Rattle.street_graph.specs.GrDraft.{HasRead}
use Rattle.street_graph.specs.Graph.{IsWithinLimits}
use Rattle.street_graph.proofs.GrLemmas.{size_of-append, arcs_of-push}

-- the arc joins two of the vertices, and its seconds are not too many
pub record IsArcWithin (nodes : ℕ) (arc : StreetArc) : Type 0 where
  pub from : (1 ≤ arc.from.0) × (arc.from.0 ≤ nodes)
  pub to : (1 ≤ arc.to.0) × (arc.to.0 ≤ nodes)
  pub seconds : arc.seconds ≤ 1000000

within-of : (low high n : ℕ) (cause : Cause) → (if is_within low high n then None else Some cause) ≡ None → (low ≤ n) × (n ≤ high)
within-of low high n cause e = grind (arith, nat_tests)

vertex-of : (nodes v : ℕ) → vertex_broken nodes v ≡ None → (1 ≤ v) × (v ≤ nodes)
unfolding vertex_broken
vertex-of nodes v e = within-of 1 nodes v _ e

arc-of : (size given : Size) (u v w : ℕ) → given ≡ size → HoldAt gr_rules (record { given = Some given; line = Arc u v w })
    → IsArcWithin size.nodes (record { from = record { 0 = u }; to = record { 0 = v }; seconds = w })
unfolding gr_rules from_broken to_broken seconds_broken
arc-of size given u v w same h =
    let from : (1 ≤ u) × (u ≤ given.nodes) = vertex-of given.nodes u h.1.1.1.0 in
    let to : (1 ≤ v) × (v ≤ given.nodes) = vertex-of given.nodes v h.1.1.1.1.0 in
    let nodes : given.nodes ≡ size.nodes = ap (λ (s : Size). s.nodes) same in
    record { from = (from.0, omega arith); to = (to.0, omega arith); seconds = (within-of 0 1000000 w _ h.1.1.1.1.1.0).1 }

no_size : (u v w : ℕ) → HoldAt gr_rules (record { given = None; line = Arc u v w }) → ⊥
unfolding gr_rules form_broken
no_size u v w h = cc h.0

line-of : (size : Size) (given : Option Size) (line : GrLine) → ((s : Size) → given ≡ Some s → s ≡ size)
    → HoldAt gr_rules (record { given = given; line = line }) → All (IsArcWithin size.nodes) (arcs_in line)
line-of size given Skipped same h = All-nil (IsArcWithin size.nodes)
line-of size given Faulty same h = All-nil (IsArcWithin size.nodes)
line-of size given (Problem n m) same h = All-nil (IsArcWithin size.nodes)
line-of size None (Arc u v w) same h = absurd (no_size u v w h)
line-of size (Some s) (Arc u v w) same h =
    All-from_recursion (IsArcWithin size.nodes) (record { from = record { 0 = u }; to = record { 0 = v }; seconds = w } ∷ [])
    (arc-of size s u v w (same s refl) h, tt)

given-of : (ls : List GrLine) (i : ℕ) (size s : Size) → size_of ls ≡ Some size → size_of (take i ls) ≡ Some s → s ≡ size
given-of ls i size s whole part =
    let split : size_of ls ≡ first_some (size_of (take i ls)) (size_of (drop i ls)) = ap size_of (sym (take-append-drop i ls)) ∙ size_of-append (take i ls) (drop i ls) in
    let front : size_of ls ≡ Some s = split ∙ ap (λ o. first_some o (size_of (drop i ls))) part in
    cc

arcs-of : (ls : List GrLine) (size : Size) → LinesHold ls → size_of ls ≡ Some size → (i : ℕ) → i ≤ length ls
    → All (IsArcWithin size.nodes) (arcs_of (take i ls))
arcs-of ls size hold whole zero le = All-nil (IsArcWithin size.nodes)
arcs-of ls size hold whole (suc i) le =
    let lt : i < length ls = omega arith in
    let line = get_or ls i Skipped in
    let next : take (suc i) ls ≡ take i ls ++ line ∷ [] = rw add-one at (take_more ls i Skipped lt) in
    let here : All (IsArcWithin size.nodes) (arcs_in line) = line-of size (size_of (take i ls)) line (λ s e. given-of ls i size s whole e) (hold i lt) in
    rw (next, arcs_of-push (take i ls) line)
    (All-append (IsArcWithin size.nodes) (arcs_of (take i ls)) (arcs_in line) (arcs-of ls size hold whole i (omega arith)) here)

size-line : (size : Size) (given : Option Size) → HoldAt gr_rules (record { given = given; line = Problem size.nodes size.arcs })
    → (1 ≤ size.nodes) × (size.nodes ≤ 2000000) × (size.arcs ≤ 8000000)
unfolding gr_rules nodes_broken arcs_broken
size-line size given h =
    let nodes = within-of 1 2000000 size.nodes _ h.1.0 in
    let arcs = within-of 0 8000000 size.arcs _ h.1.1.0 in
    (nodes.0, nodes.1, arcs.1)

size-of : (ls : List GrLine) (size : Size) (row : ℕ) → LinesHold ls → IsSizeRow ls row size
    → (1 ≤ size.nodes) × (size.nodes ≤ 2000000) × (size.arcs ≤ 8000000)
size-of ls size row hold r =
    let lt : r.place < length ls = slice_get_within ls r.place _ r.announced in
    let line : get_or ls r.place Skipped ≡ Problem size.nodes size.arcs = get_or_from_slice_get ls r.place (Problem size.nodes size.arcs) Skipped r.announced in
    size-line size (size_of (take r.place ls)) (rw line at (hold r.place lt))

-- the graph that was read is within the limits
pub read_within : (ls : List GrLine) (draft : Draft) (size : Size) → LinesHold ls → HasRead draft ls → draft.size ≡ Some size
    → length draft.arcs ≡ size.arcs → IsWithinLimits (record { nodes = size.nodes; arcs = draft.arcs })
read_within ls draft size hold read is counted =
    let limits = size-of ls size draft.row hold (read.row size is) in
    let all : All (IsArcWithin size.nodes) (arcs_of ls) = rw (take_all (length ls) ls (omega arith)) at (arcs-of ls size hold (sym read.size ∙ is) (length ls) (omega arith)) in
    let arcs : All (IsArcWithin size.nodes) draft.arcs = All-same (IsArcWithin size.nodes) draft.arcs (arcs_of ls) read.arcs all in
    record {
      streets = record {
        has_node = limits.0;
        arcs_join = All-weaker (IsArcWithin size.nodes) (λ arc. IsVertex (record { nodes = size.nodes; arcs = draft.arcs }) arc.from × IsVertex (record { nodes = size.nodes; arcs = draft.arcs }) arc.to)
            (λ arc a. (record { from_one = a.from.0; to_nodes = a.from.1 }, record { from_one = a.to.0; to_nodes = a.to.1 })) draft.arcs arcs;
      };
      nodes = limits.1;
      arcs = omega (arith, limits.2);
      seconds = All-weaker (IsArcWithin size.nodes) (λ arc. arc.seconds ≤ 1000000) (λ arc a. a.seconds) draft.arcs arcs;
    }
