use Rattle.std.proofs.Common.{List, [], length, vec_capacity, sym, subst, ap, ◌∙◌, arith, length-set}
use Rattle.std.proofs.lemmas.List.{nil_from_length}
use Rattle.core_search.specs.declared.labels.Slot.{Slot}
use Rattle.core_search.specs.Stored.{no_slot, labels_in, IsStored}
use Rattle.core_search.proofs.StoreLemmas.{stored_popped, none_stored, all_none, many_labels}
use Rattle.core_search.proofs.labels.Labels.clear.Goals as goal

pub loop-slot-preserved : goal.loop-slot-preserved
loop-slot-preserved c =
    let index = c.loop-slot.self-inside.index.items in
    let room = vec_capacity c.loop-slot.self-inside.slots in
    record {
      stored = rw c.pop.ensures.capacity (stored_popped c.pop.new.self.items index room c.in-Some.slot
          (subst (λ (xs : List Slot). IsStored xs c.loop-slot.self-inside.index.items (vec_capacity c.loop-slot.self-inside.slots)) c.in-Some.ensures.items c.loop-slot.invariant.stored) room c.loop-slot.invariant.stored.enough);
      long = length-set index _ no_slot ∙ c.loop-slot.invariant.long;
    }

pub returns : goal.returns
returns c =
    let index = c.loop-slot.self-inside.index.items in
    let slots = c.self.inside.slots.items in
    let first = c.self.inside.index.items in
    ap (λ (xs : List Slot). labels_in xs c.loop-slot.self-inside.index.items) (nil_from_length c.pop.new.self.items (sym c.pop.new.self.ok.0 ∙ c.in_default.ensures.cases.1))
    ∙ all_none (labels_in [] index) (length c.args.self.now)
    (omega (arith, many_labels [] index, many_labels slots first, ap length c.self.view_is, c.loop-slot.invariant.long)) (none_stored index)
