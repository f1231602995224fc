use Rattle.std.proofs.Common.{◌≡◌, length, sym, ap, subst, inl, inr, arith}
use Rattle.std.specs.Prelude.{slice_index}
use Rattle.std.proofs.lemmas.Bool.{cases_lt}
use Rattle.std.proofs.lemmas.List.{get_or_past}
use Rattle.move_model.specs.declared.network.NodeNo.{NodeNo}
use Rattle.walk_hierarchy.specs.declared.labels.Label.{Label}
use Rattle.walk_hierarchy.specs.Labels.{HasLabel}
use Rattle.walk_hierarchy.specs.Places.{place_of}
use Rattle.walk_hierarchy.proofs.SearchLaws.{label_same}
use Rattle.walk_hierarchy.proofs.PlaceLaws.{label_named, label_of_vertex}
use Rattle.walk_hierarchy.proofs.unfolding.label_at.Goals as goal

pub label-label-requires : goal.label-label-requires
label-label-requires c =
    let labels = c.args.labels.now in
    let n = label_named c.args.hierarchy.now.ranks c.args.names.now c.requires.names labels c.args.at.0 c.requires.label.0 c.requires.label.1.0 in
    (n.y, subst (λ (v : NodeNo). HasLabel labels v.0 n.y) (sym c.place.ensures) n.has)

pub bounds-names-label : goal.bounds-names-label
bounds-names-label c =
    let ranks = c.args.hierarchy.now.ranks in
    let names = c.args.names.now in
    let labels = c.args.labels.now in
    let x = c.requires.label.0 in
    let read = c.label-label.result in
    let n = label_named ranks names c.requires.names labels c.args.at.0 x c.requires.label.1.0 in
    let here : HasLabel labels (place_of ranks c.args.at.0) read = subst (λ (v : NodeNo). HasLabel labels v.0 read) c.place.ensures c.label-label.ensures in
    let same = label_same labels (place_of ranks c.args.at.0) n.y read n.has here in
    let parent : n.y.parent.0 ≡ read.parent.0 = ap (λ (z : Label). z.parent.0) same in
    let name : slice_index names n.y.parent.0 ≡ x.parent.0 = ap (λ (z : Label). z.parent.0) n.is in
    elim (cases_lt n.y.parent.0 (length names)) [
      | inl lt ↦ omega (arith, lt, parent)
      | inr past ↦ absurd (omega (arith, get_or_past names n.y.parent.0 0 past, name, c.requires.label.1.1))
    ]

pub returns : goal.returns
returns c =
    let ranks = c.args.hierarchy.now.ranks in
    let names = c.args.names.now in
    let labels = c.args.labels.now in
    let read = c.label-label.result in
    let n = label_named ranks names c.requires.names labels c.args.at.0 c.requires.label.0 c.requires.label.1.0 in
    let here : HasLabel labels (place_of ranks c.args.at.0) read = subst (λ (v : NodeNo). HasLabel labels v.0 read) c.place.ensures c.label-label.ensures in
    label_of_vertex ranks names c.requires.names labels c.args.at.0 read n.at here
