use Rattle.std.proofs.Common.{◌≡◌, ◌∙◌, List, map, ap, sym, subst}
use Rattle.std.specs.Prelude.{All}
use Rattle.std.proofs.lemmas.List.Elements.{All-same, All-map}
use Rattle.move_model.specs.declared.network.NodeNo.{NodeNo}
use Rattle.move_model.specs.declared.network.Stop.{Stop}
use Rattle.move_model.specs.Streets.{Streets, IsVertex}
use Rattle.network_compile.proofs.ListLemmas.{stops_kept}
use Rattle.network_compile.proofs.streets.core_of.Goals as goal

pub contract-requires : goal.contract-requires
contract-requires c =
    let n = c.args.network.now in
    let g : Streets = c.in_ok-graph.graph in
    All-same (IsVertex g) c.as_slice-2.result.now (map (λ (s : Stop). s.node) n.stops)
    (c.as_slice-2.ensures.value ∙ c.in_ok-keep.ensures ∙ ap (map (λ (s : Stop). s.node)) c.as_slice.ensures)
    (All-map (IsVertex g) (λ (s : Stop). s.node) n.stops
    (subst (λ (x : Streets). All (λ (s : Stop). IsVertex x s.node) n.stops) (sym c.in_ok-graph.ensures) c.requires.rules.network.stops_stand))

pub returns-clause-kept : goal.returns-clause-kept
returns-clause-kept c =
    let n = c.args.network.now in
    stops_kept c.in_ok-core.core n.stops c.as_slice-2.result.now
    (c.as_slice-2.ensures.value ∙ c.in_ok-keep.ensures ∙ ap (map (λ (s : Stop). s.node)) c.as_slice.ensures) c.in_ok-core.ensures.kept
