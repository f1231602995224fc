use Rattle.std.proofs.Common.{◌≡◌, ◌+◌, ℕ, Option, None, length, ap, subst, arith}
use Rattle.std.proofs.lemmas.List.{length-replicate}
use Rattle.move_model.specs.declared.network.NodeNo.{NodeNo}
use Rattle.walk_hierarchy.specs.declared.labels.Label.{Label}
use Rattle.walk_hierarchy.specs.Hierarchy.{HasArc}
use Rattle.walk_hierarchy.specs.Working.{Working}
use Rattle.walk_hierarchy.specs.Search.{HasHalf, Climbs}
use Rattle.walk_hierarchy.specs.Labels.{IsLeastFrom}
use Rattle.walk_hierarchy.specs.Places.{place_of, by_vertex}
use Rattle.walk_hierarchy.proofs.PlaceLaws.{least_by, listed_by}
use Rattle.walk_hierarchy.proofs.HalfLaws.{ascents_climb, up_renumbered, vertex_at, place_low}
use Rattle.walk_hierarchy.proofs.MeetLaws.{settled_from}
use Rattle.walk_hierarchy.proofs.up_down.search_up.Goals as goal

pub sweep-requires-clause-climbs : goal.sweep-requires-clause-climbs
sweep-requires-clause-climbs g c =
    let s = c.ascents.ensures in
    let idle = c.work.invariant in
    let places : length c.args.hierarchy.now.ranks + 1 ≡ length c.work.inside.up =
    omega (
      arith,
      c.requires.fits,
      ap (λ (w : Working). w.nodes) c.work.view_is,
      idle.from_zero,
      ap length idle.up_none,
      length-replicate {A = Option Label} (length c.work.inside.up_queue) None,
    ) in
    subst (λ (n : ℕ). Climbs c.ascents.result.now n) places (ascents_climb c.args.hierarchy.now s.rules c.ascents.result.now s.rows)

pub sweep-requires-clause-from : goal.sweep-requires-clause-from
sweep-requires-clause-from g c =
    let h = c.args.hierarchy.now in
    let idle = c.work.invariant in
    let places : length c.args.hierarchy.now.ranks + 1 ≡ length c.work.inside.up =
    omega (
      arith,
      c.requires.fits,
      ap (λ (w : Working). w.nodes) c.work.view_is,
      idle.from_zero,
      ap length idle.up_none,
      length-replicate {A = Option Label} (length c.work.inside.up_queue) None,
    ) in
    let low = place_low h c.ascents.ensures.rules c.args.from.0 (vertex_at h c.args.from c.requires.exists) in
    omega (arith, ap (λ (v : NodeNo). v.0) c.place.ensures, low, places)

pub list-requires-clause-named : goal.list-requires-clause-named
list-requires-clause-named g c =
    let idle = c.work.invariant in
    let places : length c.args.hierarchy.now.ranks + 1 ≡ length c.work.inside.up =
    omega (
      arith,
      c.requires.fits,
      ap (λ (w : Working). w.nodes) c.work.view_is,
      idle.from_zero,
      ap length idle.up_none,
      length-replicate {A = Option Label} (length c.work.inside.up_queue) None,
    ) in
    omega (arith, c.names.ensures.many, c.sweep.ensures.many, places)

pub returns-clause-settled : goal.returns-clause-settled
returns-clause-settled g c =
    let h = c.args.hierarchy.now in
    let rows = c.ascents.result.now in
    let names = c.names.result.now in
    let s = c.ascents.ensures in
    let r = up_renumbered h s.rules rows s.rows in
    let at = vertex_at h c.args.from c.requires.exists in
    let least : IsLeastFrom (HasHalf rows) (place_of h.ranks c.args.from.0) c.sweep.new.labels =
    subst (λ (p : NodeNo). IsLeastFrom (HasHalf rows) p.0 c.sweep.new.labels) c.place.ensures c.sweep.ensures.least in
    let listed = listed_by h.ranks names c.names.ensures c.sweep.new.labels (HasHalf rows) (HasArc h.up) r c.args.from.0 at c.list.ensures.listed.0 c.list.ensures.listed.1.0 least in
    rw c.list.ensures.listed.1.1
    (settled_from (HasArc h.up) c.args.from.0 (by_vertex h.ranks names c.sweep.new.labels) _
    (least_by h.ranks names c.names.ensures c.sweep.new.labels (HasHalf rows) (HasArc h.up) r c.args.from.0 at least) listed)
