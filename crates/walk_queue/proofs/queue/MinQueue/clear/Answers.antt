use Rattle.std.proofs.Common.{None, vec_capacity, length, replicate, sym, refl, ap, ◌∙◌, arith, length-set}
use Rattle.std.proofs.lemmas.List.{length-map, append-nil, nil_from_length}
use Rattle.walk_queue.specs.Heap.{key_in}
use Rattle.walk_queue.proofs.KeysIn.{keys_in-none}
use Rattle.walk_queue.proofs.Stored.{keys_in-along, IsStored-along, IsStored-popped, place-popped}
use Rattle.walk_queue.proofs.queue.MinQueue.clear.Goals as goal

pub index_mut-requires : goal.index_mut-requires
index_mut-requires g c =
    let q = c.loop-entry.self-inside in
    let here = place-popped q.slots.items c.pop.new.self.items q.index.items c.in-Some.entry c.in-Some.ensures.items _ c.loop-entry.invariant.stored in
    omega (arith, here, q.index.ok.0)

pub loop-entry-preserved : goal.loop-entry-preserved
loop-entry-preserved g c =
    let q = c.loop-entry.self-inside in
    record {
      stored = IsStored-popped q.slots.items c.pop.new.self.items q.index.items c.in-Some.entry c.in-Some.ensures.items _ _ c.pop.ensures.capacity c.loop-entry.invariant.stored;
      long = length-set q.index.items c.in-Some.entry.place 4294967295 ∙ c.loop-entry.invariant.long;
    }

pub invariant_of-self : goal.invariant_of-self
invariant_of-self g c =
    let q = c.loop-entry.self-inside in
    IsStored-along _ q.slots.items _ q.index.items _ (vec_capacity q.slots) (sym (c.in_default.ensures.items ∙ append-nil c.pop.new.self.items)) refl c.pop.ensures.capacity c.loop-entry.invariant.stored

pub returns : goal.returns
returns g c =
    let index = c.loop-entry.self-inside.index.items in
    keys_in-along _ _ _ _ (nil_from_length c.pop.new.self.items (sym c.pop.new.self.ok.0 ∙ c.in_default.ensures.cases.1)) refl
    ∙ keys_in-none index
    ∙ ap (λ n. replicate n None) (c.loop-entry.invariant.long ∙ sym (length-map c.self.inside.index.items (key_in c.self.inside.slots.items)) ∙ ap length c.self.view_is)
