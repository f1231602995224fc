use Rattle.std.proofs.Common.{map, sym, ap, ◌∙◌, arith}
use Rattle.std.proofs.lemmas.List.{take_all}
use Rattle.walk_hierarchy.specs.Places.{settled_name}
use Rattle.walk_hierarchy.proofs.LabelLaws.{entry_of, name_of, entries_listed}
use Rattle.walk_hierarchy.proofs.PlaceLaws.{map_map}
use Rattle.walk_hierarchy.proofs.labels.Labels.list.Goals as goal

pub returns-clause-listed : goal.returns-clause-listed
returns-clause-listed c =
    let marks = c.self.inside.marks.items in
    let touched = c.self.inside.touched.items in
    let names = c.args.names.now in (
      map (entry_of marks) touched,
      (
        rw (← c.self.view_is) (entries_listed marks touched _ c.self.invariant),
        c.loop-place.invariant.listed
            ∙ ap (map (name_of names marks)) (take_all c.loop-place.place-index c.as_slice-place-items.result.now (omega arith) ∙ c.as_slice-place-items.ensures.value)
            ∙ sym (map_map (settled_name names) (entry_of marks) touched),
      ),
    )
