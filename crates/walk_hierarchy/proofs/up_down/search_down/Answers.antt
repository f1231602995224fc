use Rattle.std.proofs.Common.{◌≡◌, ◌+◌, ℕ, Option, None, length, ap, subst, arith}
use Rattle.std.proofs.lemmas.List.{length-replicate}
use Rattle.move_model.specs.declared.network.NodeNo.{NodeNo}
use Rattle.walk_hierarchy.specs.declared.labels.Label.{Label}
use Rattle.walk_hierarchy.specs.Meeting.{IsArcBack}
use Rattle.walk_hierarchy.specs.Working.{Working}
use Rattle.walk_hierarchy.specs.Search.{HasHalf, Climbs}
use Rattle.walk_hierarchy.specs.Labels.{IsLeastFrom}
use Rattle.walk_hierarchy.specs.Places.{place_of, by_vertex}
use Rattle.walk_hierarchy.proofs.PlaceLaws.{least_by, listed_by}
use Rattle.walk_hierarchy.proofs.HalfLaws.{descents_climb, down_renumbered, vertex_at, place_low}
use Rattle.walk_hierarchy.proofs.MeetLaws.{settled_from, settled_down}
use Rattle.walk_hierarchy.proofs.up_down.search_down.Goals as goal

pub sweep-requires-clause-climbs : goal.sweep-requires-clause-climbs
sweep-requires-clause-climbs g c =
    let s = c.descents.ensures in
    let idle = c.work.invariant in
    let places : length c.args.hierarchy.now.ranks + 1 ≡ length c.work.inside.down =
    omega (
      arith,
      c.requires.fits,
      ap (λ (w : Working). w.nodes) c.work.view_is,
      idle.from_zero,
      ap length idle.down_none,
      length-replicate {A = Option Label} (length c.work.inside.up_queue) None,
    ) in
    subst (λ (n : ℕ). Climbs c.descents.result.now n) places (descents_climb c.args.hierarchy.now s.rules c.descents.result.now s.rows)

pub sweep-requires-clause-from : goal.sweep-requires-clause-from
sweep-requires-clause-from g c =
    let h = c.args.hierarchy.now in
    let idle = c.work.invariant in
    let places : length c.args.hierarchy.now.ranks + 1 ≡ length c.work.inside.down =
    omega (
      arith,
      c.requires.fits,
      ap (λ (w : Working). w.nodes) c.work.view_is,
      idle.from_zero,
      ap length idle.down_none,
      length-replicate {A = Option Label} (length c.work.inside.up_queue) None,
    ) in
    let low = place_low h c.descents.ensures.rules c.args.to.0 (vertex_at h c.args.to c.requires.exists) in
    omega (arith, ap (λ (v : NodeNo). v.0) c.place.ensures, low, places)

pub list-requires-clause-named : goal.list-requires-clause-named
list-requires-clause-named g c =
    let idle = c.work.invariant in
    let places : length c.args.hierarchy.now.ranks + 1 ≡ length c.work.inside.down =
    omega (
      arith,
      c.requires.fits,
      ap (λ (w : Working). w.nodes) c.work.view_is,
      idle.from_zero,
      ap length idle.down_none,
      length-replicate {A = Option Label} (length c.work.inside.up_queue) None,
    ) in
    omega (arith, c.names.ensures.many, c.sweep.ensures.many, places)

pub returns-clause-settled : goal.returns-clause-settled
returns-clause-settled g c =
    let h = c.args.hierarchy.now in
    let rows = c.descents.result.now in
    let names = c.names.result.now in
    let s = c.descents.ensures in
    let r = down_renumbered h s.rules rows s.rows in
    let at = vertex_at h c.args.to c.requires.exists in
    let least : IsLeastFrom (HasHalf rows) (place_of h.ranks c.args.to.0) c.sweep.new.labels =
    subst (λ (p : NodeNo). IsLeastFrom (HasHalf rows) p.0 c.sweep.new.labels) c.place.ensures c.sweep.ensures.least in
    let listed = listed_by h.ranks names c.names.ensures c.sweep.new.labels (HasHalf rows) (IsArcBack h.down) r c.args.to.0 at c.list.ensures.listed.0 c.list.ensures.listed.1.0 least in
    rw c.list.ensures.listed.1.1
    (settled_down h c.args.to.0 _ (settled_from (IsArcBack h.down) c.args.to.0 (by_vertex h.ranks names c.sweep.new.labels) _
    (least_by h.ranks names c.names.ensures c.sweep.new.labels (HasHalf rows) (IsArcBack h.down) r c.args.to.0 at least) listed))
