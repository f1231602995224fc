use Rattle.std.proofs.Common.{◌≡◌, ◌+◌, ◌<◌, List, length, sym, ap, subst, ◌∙◌, arith}
use Rattle.std.specs.Prelude.{Contains}
use Rattle.std.proofs.lemmas.List.Elements.{All-contains}
use Rattle.move_model.specs.declared.network.NodeNo.{NodeNo}
use Rattle.walk_hierarchy.specs.declared.arcs.UpDown.{UpDown}
use Rattle.walk_hierarchy.specs.declared.rows.Half.{Half}
use Rattle.walk_hierarchy.specs.Hierarchy.{Parts, IsArcDown}
use Rattle.walk_hierarchy.specs.Places.{place_of}
use Rattle.walk_hierarchy.specs.Search.{row_of}
use Rattle.walk_hierarchy.specs.Stored.{IsStored}
use Rattle.walk_hierarchy.proofs.HalfLaws.{vertex_at, place_low, half_down_of, down_stands, descents_climb}
use Rattle.walk_hierarchy.proofs.hierarchy.Hierarchy.arc_down.Goals as goal

pub place-requires : goal.place-requires
place-requires c =
    let h = c.args.self.now in
    let s : IsStored c.args.self.now c.self.inside.ascents c.self.inside.descents c.self.inside.names.items =
    subst (λ (p : Parts). IsStored p c.self.inside.ascents c.self.inside.descents c.self.inside.names.items) c.self.view_is c.self.invariant in
    let arc : UpDown = record { from = c.args.from; to = c.args.to; seconds = c.requires.0; middle = c.requires.1.0 } in
    let ends = All-contains (IsArcDown h) h.down arc s.rules.down c.requires.1.1 in
    ends.to

pub place-requires-2 : goal.place-requires-2
place-requires-2 c =
    let h = c.args.self.now in
    let s : IsStored c.args.self.now c.self.inside.ascents c.self.inside.descents c.self.inside.names.items =
    subst (λ (p : Parts). IsStored p c.self.inside.ascents c.self.inside.descents c.self.inside.names.items) c.self.view_is c.self.invariant in
    let arc : UpDown = record { from = c.args.from; to = c.args.to; seconds = c.requires.0; middle = c.requires.1.0 } in
    let ends = All-contains (IsArcDown h) h.down arc s.rules.down c.requires.1.1 in
    ends.from

pub row-requires-clause-rises : goal.row-requires-clause-rises
row-requires-clause-rises c =
    let h = c.args.self.now in
    let s : IsStored c.args.self.now c.self.inside.ascents c.self.inside.descents c.self.inside.names.items =
    subst (λ (p : Parts). IsStored p c.self.inside.ascents c.self.inside.descents c.self.inside.names.items) c.self.view_is c.self.invariant in
    let rows = c.self.inside.descents in
    let arc : UpDown = record { from = c.args.from; to = c.args.to; seconds = c.requires.0; middle = c.requires.1.0 } in
    let ends = All-contains (IsArcDown h) h.down arc s.rules.down c.requires.1.1 in
    let place : c.place.result.0 ≡ place_of h.ranks c.args.to.0 = ap (λ (v : NodeNo). v.0) c.place.ensures in
    let low : c.place.result.0 < length h.ranks + 1 = omega (arith, place, place_low h s.rules c.args.to.0 (vertex_at h c.args.to ends.to)) in
    let climbs = descents_climb h s.rules rows s.ending in
    climbs.rises c.place.result.0 low

pub row-requires-clause-within : goal.row-requires-clause-within
row-requires-clause-within c =
    let h = c.args.self.now in
    let s : IsStored c.args.self.now c.self.inside.ascents c.self.inside.descents c.self.inside.names.items =
    subst (λ (p : Parts). IsStored p c.self.inside.ascents c.self.inside.descents c.self.inside.names.items) c.self.view_is c.self.invariant in
    let rows = c.self.inside.descents in
    let arc : UpDown = record { from = c.args.from; to = c.args.to; seconds = c.requires.0; middle = c.requires.1.0 } in
    let ends = All-contains (IsArcDown h) h.down arc s.rules.down c.requires.1.1 in
    let place : c.place.result.0 ≡ place_of h.ranks c.args.to.0 = ap (λ (v : NodeNo). v.0) c.place.ensures in
    let low : c.place.result.0 < length h.ranks + 1 = omega (arith, place, place_low h s.rules c.args.to.0 (vertex_at h c.args.to ends.to)) in
    let climbs = descents_climb h s.rules rows s.ending in
    climbs.within c.place.result.0 low

pub row-requires-clause-exists : goal.row-requires-clause-exists
row-requires-clause-exists c =
    let h = c.args.self.now in
    let s : IsStored c.args.self.now c.self.inside.ascents c.self.inside.descents c.self.inside.names.items =
    subst (λ (p : Parts). IsStored p c.self.inside.ascents c.self.inside.descents c.self.inside.names.items) c.self.view_is c.self.invariant in
    let rows = c.self.inside.descents in
    let arc : UpDown = record { from = c.args.from; to = c.args.to; seconds = c.requires.0; middle = c.requires.1.0 } in
    let ends = All-contains (IsArcDown h) h.down arc s.rules.down c.requires.1.1 in
    let place : c.place.result.0 ≡ place_of h.ranks c.args.to.0 = ap (λ (v : NodeNo). v.0) c.place.ensures in
    let low : c.place.result.0 < length h.ranks + 1 = omega (arith, place, place_low h s.rules c.args.to.0 (vertex_at h c.args.to ends.to)) in
    let climbs = descents_climb h s.rules rows s.ending in
    omega (arith, low, climbs.starts)

pub find-half-requires : goal.find-half-requires
find-half-requires c =
    let h = c.args.self.now in
    let s : IsStored c.args.self.now c.self.inside.ascents c.self.inside.descents c.self.inside.names.items =
    subst (λ (p : Parts). IsStored p c.self.inside.ascents c.self.inside.descents c.self.inside.names.items) c.self.view_is c.self.invariant in
    let rows = c.self.inside.descents in
    let half = half_down_of h s.rules rows s.ending c.args.to.0 c.args.from.0 c.requires.0 c.requires.1 in
    let found : Half = record { seconds = c.requires.0; to = record { 0 = place_of h.ranks c.args.from.0 }; middle = half.middle } in
    let stands : Contains (row_of rows c.place.result.0) found = subst (λ (v : NodeNo). Contains (row_of rows v.0) found) (sym c.place.ensures) half.stands in
    (found, (subst (λ (row : List Half). Contains row found) (sym c.row.ensures) stands, sym c.place-2.ensures))

pub returns-clause-stands : goal.returns-clause-stands
returns-clause-stands c =
    let h = c.args.self.now in
    let s : IsStored c.args.self.now c.self.inside.ascents c.self.inside.descents c.self.inside.names.items =
    subst (λ (p : Parts). IsStored p c.self.inside.ascents c.self.inside.descents c.self.inside.names.items) c.self.view_is c.self.invariant in
    let rows = c.self.inside.descents in
    let arc : UpDown = record { from = c.args.from; to = c.args.to; seconds = c.requires.0; middle = c.requires.1.0 } in
    let ends = All-contains (IsArcDown h) h.down arc s.rules.down c.requires.1.1 in
    let half = c.find-half.result in
    let stands : Contains (row_of rows c.place.result.0) c.find-half.result =
    subst (λ (row : List Half). Contains row c.find-half.result) c.row.ensures c.find-half.ensures.stands in
    down_stands h s.rules rows c.self.inside.names.items s.named c.args.from c.args.to (vertex_at h c.args.from ends.from) (vertex_at h c.args.to ends.to) half s.ending
    (subst (λ (v : NodeNo). Contains (row_of rows v.0) c.find-half.result) c.place.ensures stands)
    (ap (λ (v : NodeNo). v.0) (c.find-half.ensures.leads ∙ c.place-2.ensures))
