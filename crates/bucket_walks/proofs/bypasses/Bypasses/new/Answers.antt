use Rattle.std.proofs.Common.{◌≡◌, ◌∙◌, ◌+◌, ℕ, List, map, sym, ap, subst}
use Rattle.std.specs.List.Sorted.{IsNonDecreasing}
use Rattle.bucket_walks.specs.declared.bypasses.Bypass.{Bypass}
use Rattle.bucket_walks.specs.Starts.{AreStarts}
use Rattle.bucket_walks.specs.Gathered.{bypass_of, arcs_of, heads_of}
use Rattle.bucket_walks.proofs.MapLemmas.{map_rises, past_sorted}
use Rattle.bucket_walks.proofs.bypasses.Bypasses.new.Goals as goal

pub starts-requires-clause-rise : goal.starts-requires-clause-rise
starts-requires-clause-rise c =
    let is : c.deref-2.result.now ≡ heads_of c.sort_arcs.new.arcs.items = c.deref-2.ensures.value ∙ c.in_ok-heads.ensures ∙ ap heads_of c.deref.ensures.value in
    subst IsNonDecreasing (sym is) (map_rises (λ (arc : Bypass). arc.node.0) c.sort_arcs.new.arcs.items c.sort_arcs.ensures.rise)

pub returns : goal.returns
returns c =
    let h = c.args.hierarchy.now in
    let side = c.args.side in
    let given : c.in_ok-arcs.arcs.items ≡ map (bypass_of side) (arcs_of side h) = c.in_ok-arcs.ensures ∙ ap (map (bypass_of side)) c.given.ensures in
    let is : c.deref-2.result.now ≡ heads_of c.sort_arcs.new.arcs.items = c.deref-2.ensures.value ∙ c.in_ok-heads.ensures ∙ ap heads_of c.deref.ensures.value in
    record {
      arcs = past_sorted side h c.in_ok-arcs.arcs.items c.sort_arcs.new.arcs.items given c.sort_arcs.ensures.same;
      starts = c.in_ok-starts.ensures.many ∙ ap (λ (n : ℕ). n + 2) c.nodes-nodes.ensures.value;
      first = subst (λ (keys : List ℕ). AreStarts c.in_ok-starts.starts.items keys) is c.in_ok-starts.ensures.first;
    }
