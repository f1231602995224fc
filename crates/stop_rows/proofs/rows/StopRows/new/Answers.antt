use Rattle.std.proofs.Common.{◌≡◌, ℕ, List, [], Vec, Global, length, map, slice_get, slice_index_or, sym, subst, ap, ◌∙◌, arith}
use Rattle.std.specs.Prelude.{All}
use Rattle.std.proofs.lemmas.List.{length-map}
use Rattle.move_model.specs.declared.network.NodeNo.{NodeNo}
use Rattle.move_model.specs.declared.network.Stop.{Stop}
use Rattle.move_model.specs.declared.network.StopNo.{StopNo}
use Rattle.move_model.specs.Network.{streets}
use Rattle.walk_core.specs.Core.{Holds}
use Rattle.stop_rows.specs.Places.{AreStopsAt}
use Rattle.stop_rows.proofs.ListLemmas.{map_each}
use Rattle.stop_rows.proofs.rows.StopRows.new.Goals as goal

pub all_rows-requires : goal.all_rows-requires
all_rows-requires c =
    subst (λ (nodes : List NodeNo). All (Holds c.args.core.now) nodes) (sym c.as_slice-3.ensures.value)
    (c.in_ok-sites.ensures.hold c.args.core.now (subst (λ (stops : List Stop). All (λ stop. Holds c.args.core.now stop.node) stops) (sym c.as_slice.ensures) c.requires.kept))

pub invariant_of-result : goal.invariant_of-result
invariant_of-result c =
    let f = λ (row : Vec StopNo Global). row.items in
    let g = λ (row : Vec ℕ Global). row.items in
    let sites = c.in_ok-sites.sites in
    let stops = c.in_ok-stops.stops.items in
    let seconds = c.in_ok-seconds.seconds.items in
    let many : c.len.result ≡ length c.in_ok-sites.sites.nodes.items = c.len.ensures ∙ c.in_ok-sites.sites.nodes.ok.0 in
    let nodes : c.as_slice-3.result.now ≡ c.in_ok-sites.sites.nodes.items = c.as_slice-3.ensures.value in
    let rows : length c.in_ok-seconds.seconds.items ≡ length c.in_ok-sites.sites.nodes.items = c.in_ok-seconds.ensures.many ∙ ap length nodes in
    record {
      few = omega (arith, c.in_ok-sites.ensures.few, c.requires.rules.has_nodes.1);
      few_stops = omega (arith, c.in_ok-sites.ensures.one_each, ap length c.as_slice.ensures, c.requires.few);
      within = c.in_ok-sites.ensures.within;
      lists = omega (arith, length-map stops f, c.in_ok-stops.ensures.many, many);
      stops_at = λ p low.
          subst (λ (places : List ℕ). AreStopsAt places p (slice_index_or (map (λ (row : Vec StopNo Global). row.items) c.in_ok-stops.stops.items) p [])) c.as_slice-2.ensures.value
          (c.in_ok-stops.ensures.stops p (omega (arith, low, many)));
      many = omega (arith, length-map seconds g, rows);
      wide = λ p low.
          map_each g (λ (row : List ℕ). length row ≡ length c.in_ok-sites.sites.nodes.items) seconds []
          (λ k d lt. c.in_ok-seconds.ensures.wide k d lt ∙ ap length nodes) p (omega (arith, low, rows));
    }

pub returns : goal.returns
returns c = record {
  places = c.in_ok-sites.ensures.places c.args.network.now _ c.as_slice.ensures;
  distances = λ p q a b at_p at_q.
      c.in_ok-seconds.ensures.rows (streets c.args.network.now) c.requires.contraction p a (ap (λ (nodes : List NodeNo). slice_get nodes p) c.as_slice-3.ensures.value ∙ at_p)
      q b (ap (λ (nodes : List NodeNo). slice_get nodes q) c.as_slice-3.ensures.value ∙ at_q);
}
