use Rattle.std.proofs.Common.{◌≡◌, List, [], ◌∷◌, ◌++◌, length, vec_capacity, refl, sym, subst, ap, ◌∙◌, arith, length-set}
use Rattle.std.proofs.lemmas.List.{append-nil, nil_from_length}
use Rattle.core_search.specs.declared.labels.Slot.{Slot}
use Rattle.core_search.specs.Waiting.{HasNone}
use Rattle.core_search.specs.Stored.{no_slot, labels_in, IsStored}
use Rattle.core_search.proofs.StoreLemmas.{stored_popped, labels_popped, label_popped, popped_place, none_stored, many_labels, IsMoving, moving_first, moving_more, moving_done}
use Rattle.core_search.proofs.labels.Labels.move_to.Goals as goal

pub loop-slot-init : goal.loop-slot-init
loop-slot-init c = record {
  stored = c.self.invariant;
  long = refl;
  moving =
      let labels = labels_in c.self.inside.slots.items c.self.inside.index.items in
      moving_first labels c.args.waiting.now (c.requires.same ∙ sym (ap length c.self.view_is)) c.requires.none;
}

pub loop-slot-preserved : goal.loop-slot-preserved
loop-slot-preserved c =
    let index = c.loop-slot.self-inside.index.items in
    let room = vec_capacity c.loop-slot.self-inside.slots in
    let s = c.in-Some.slot in
    let rest = c.pop.new.self.items in
    let was = subst (λ (xs : List Slot). IsStored xs c.loop-slot.self-inside.index.items (vec_capacity c.loop-slot.self-inside.slots)) c.in-Some.ensures.items c.loop-slot.invariant.stored in
    let place = popped_place rest index room s was in
    let moving =
    subst (λ (xs : List Slot). IsMoving (labels_in c.self.inside.slots.items c.self.inside.index.items) (labels_in xs c.loop-slot.self-inside.index.items) c.loop-slot.waiting)
    c.in-Some.ensures.items c.loop-slot.invariant.moving in
    record {
      stored = rw c.pop.ensures.capacity (stored_popped rest index room s was room c.loop-slot.invariant.stored.enough);
      long = length-set index _ no_slot ∙ c.loop-slot.invariant.long;
      moving = moving_more _ _ _ _ _ s.node.0 s.label (omega (arith, place.1, many_labels (c.pop.new.self.items ++ s ∷ []) index)) (label_popped rest index room s was) (labels_popped rest index room s was)
          c.admit.ensures moving;
    }

pub returns-clause-waiting : goal.returns-clause-waiting
returns-clause-waiting c =
    let index = c.loop-slot.self-inside.index.items in
    let none : c.pop.new.self.items ≡ [] = nil_from_length c.pop.new.self.items (sym c.pop.new.self.ok.0 ∙ c.in_default.ensures.cases.1) in
    let same : c.loop-slot.self-inside.slots.items ≡ [] = c.in_default.ensures.items ∙ append-nil c.pop.new.self.items ∙ none in
    moving_done _ _ _ c.loop-slot.invariant.moving (subst (λ (xs : List Slot). HasNone (labels_in xs c.loop-slot.self-inside.index.items)) (sym same) (none_stored index)) ∙ c.self.view_is

pub returns-clause-none : goal.returns-clause-none
returns-clause-none c =
    let index = c.loop-slot.self-inside.index.items in
    let none : c.pop.new.self.items ≡ [] = nil_from_length c.pop.new.self.items (sym c.pop.new.self.ok.0 ∙ c.in_default.ensures.cases.1) in
    subst (λ (xs : List Slot). HasNone (labels_in xs c.loop-slot.self-inside.index.items)) (sym none) (none_stored index)
