use Rattle.std.proofs.Common.{length, replicate, List, None, vec_capacity, refl, sym, subst, ap, ◌∙◌, length-set}
use Rattle.std.proofs.lemmas.List.{length-map, append-nil, nil_from_length}
use Rattle.move_model.specs.declared.network.NodeNo.{NodeNo}
use Rattle.walk_hierarchy.specs.declared.labels.Label.{Label}
use Rattle.walk_hierarchy.specs.Labels.{label_of, IsTouched}
use Rattle.walk_hierarchy.proofs.LabelLaws.{touched_popped, none_left}
use Rattle.walk_hierarchy.proofs.labels.Labels.clear.Goals as goal

pub loop-node-preserved : goal.loop-node-preserved
loop-node-preserved c =
    let marks = c.loop-node.self-inside.marks.items in
    let room = vec_capacity c.loop-node.self-inside.touched in
    let none : Label = record { seconds = 18446744073709551615; parent = record { 0 = 0 } } in
    record {
      touched = rw c.pop.ensures.capacity (touched_popped marks c.pop.new.self.items room c.in-Some.node none
          (subst (λ (ts : List NodeNo). IsTouched marks ts room) c.in-Some.ensures.items c.loop-node.invariant.touched) refl);
      long = length-set marks c.in-Some.node.0 none ∙ c.loop-node.invariant.long;
    }

pub returns : goal.returns
returns c =
    let marks = c.loop-node.self-inside.marks.items in
    let room = vec_capacity c.loop-node.self-inside.touched in
    none_left marks room
    (subst (λ (ts : List NodeNo). IsTouched marks ts room)
    (c.in_default.ensures.items ∙ append-nil c.pop.new.self.items ∙ nil_from_length c.pop.new.self.items (sym c.pop.new.self.ok.0 ∙ c.in_default.ensures.cases.1))
    c.loop-node.invariant.touched)
    ∙ ap (λ n. replicate n None) (c.loop-node.invariant.long ∙ sym (length-map c.self.inside.marks.items label_of) ∙ ap length c.self.view_is)
