use Rattle.std.proofs.Common.{◌≡◌, ◌+◌, ◌<◌, vec_capacity, length, set, Some, true, false, is_lt, sym, refl, ap, ◌∙◌, arith, length-set}
use Rattle.std.proofs.lemmas.List.{take_at, length_push}
use Rattle.walk_queue.specs.declared.heap.Entry.{Entry}
use Rattle.walk_queue.specs.Keys.{key_at, improves}
use Rattle.walk_queue.proofs.Stored.{slot_at, in_index, keys_in-along, IsLinked-along, IsHeapUpFrom-along, IsStored-along, free, linked-pushed, keys-pushed, order-pushed, key_at-absent, slot_within, linked-lowered, keys-lowered, key_at-slot, order-lowered}
use Rattle.walk_queue.proofs.queue.MinQueue.put_or_lower.Goals as goal

pub push_reserved-requires : goal.push_reserved-requires
push_reserved-requires g c =
    let q = c.self.inside in
    let was = c.self.invariant in
    let e : Entry g.row.K.Denot = record { key = c.args.key; place = c.args.place } in
    let here : e.place < length q.index.items = in_index q.slots.items q.index.items _ e.place c.self.view_is c.requires in
    let absent = slot_at q.index.items e.place _ here c.index-slot.ensures ∙ c.if-slot.true in
    let room = free g.met.K.Ord.total q.slots.items q.index.items _ was e here absent in
    omega (arith, room, was.has_room, q.slots.ok.0)

pub sift_up-requires-clause-few : goal.sift_up-requires-clause-few
sift_up-requires-clause-few g c =
    let q = c.self.inside in
    let was = c.self.invariant in
    let e : Entry g.row.K.Denot = record { key = c.args.key; place = c.args.place } in
    let here : e.place < length q.index.items = in_index q.slots.items q.index.items _ e.place c.self.view_is c.requires in
    let absent = slot_at q.index.items e.place _ here c.index-slot.ensures ∙ c.if-slot.true in
    let room = free g.met.K.Ord.total q.slots.items q.index.items _ was e here absent in
    let long : length c.as_mut_slice.result.now ≡ length q.slots.items + 1 = ap length c.as_mut_slice.ensures.value ∙ ap length c.push_reserved.ensures.items ∙ length_push q.slots.items e in
    omega (arith, room, was.few, long)

pub sift_up-requires-clause-linked : goal.sift_up-requires-clause-linked
sift_up-requires-clause-linked g c =
    let q = c.self.inside in
    let was = c.self.invariant in
    let e : Entry g.row.K.Denot = record { key = c.args.key; place = c.args.place } in
    let here : e.place < length q.index.items = in_index q.slots.items q.index.items _ e.place c.self.view_is c.requires in
    let absent = slot_at q.index.items e.place _ here c.index-slot.ensures ∙ c.if-slot.true in
    IsLinked-along _ _ _ _ (c.as_mut_slice.ensures.value ∙ c.push_reserved.ensures.items)
    (c.as_mut_slice-then-slot.ensures.value ∙ ap (set q.index.items e.place) (c.len-last.ensures ∙ q.slots.ok.0))
    (linked-pushed g.met.K.Ord.total q.slots.items q.index.items _ was e here absent)

pub sift_up-requires-clause-order : goal.sift_up-requires-clause-order
sift_up-requires-clause-order g c =
    let q = c.self.inside in
    let was = c.self.invariant in
    let e : Entry g.row.K.Denot = record { key = c.args.key; place = c.args.place } in
    let here : e.place < length q.index.items = in_index q.slots.items q.index.items _ e.place c.self.view_is c.requires in
    let absent = slot_at q.index.items e.place _ here c.index-slot.ensures ∙ c.if-slot.true in
    IsHeapUpFrom-along _ _ _ _ (c.as_mut_slice.ensures.value ∙ c.push_reserved.ensures.items) (c.len-last.ensures ∙ q.slots.ok.0)
    (order-pushed g.met.K.Ord.total q.slots.items q.index.items _ was e here absent)

pub invariant_of-self : goal.invariant_of-self
invariant_of-self g c =
    let q = c.self.inside in
    let was = c.self.invariant in
    let e : Entry g.row.K.Denot = record { key = c.args.key; place = c.args.place } in
    let here : e.place < length q.index.items = in_index q.slots.items q.index.items _ e.place c.self.view_is c.requires in
    let absent = slot_at q.index.items e.place _ here c.index-slot.ensures ∙ c.if-slot.true in
    let room = free g.met.K.Ord.total q.slots.items q.index.items _ was e here absent in
    let long : length c.sift_up.new.slots ≡ length q.slots.items + 1 = c.sift_up.auto.slots ∙ ap length c.as_mut_slice.ensures.value ∙ ap length c.push_reserved.ensures.items ∙ length_push q.slots.items e in
    let wide : length c.sift_up.new.index ≡ length q.index.items = c.sift_up.auto.index ∙ ap length c.as_mut_slice-then-slot.ensures.value ∙ length-set q.index.items e.place c.len-last.result in
    IsStored-along _ c.sift_up.new.slots _ c.sift_up.new.index _ (vec_capacity q.slots)
    (take_at c.sift_up.new.slots _ _ (c.sift_up.auto.slots ∙ ap length c.as_mut_slice.ensures.value ∙ sym c.push_reserved.new.self.ok.0)) (take_at c.sift_up.new.index _ _ (wide ∙ sym q.index.ok.0)) c.push_reserved.ensures.capacity
    (record {
      linked = c.sift_up.ensures.linked;
      heap = c.sift_up.ensures.order;
      within = omega (arith, room);
      has_room = omega (arith, was.has_room);
      few = omega (arith, was.few);
    })

pub returns-then-slot-clause-answer : goal.returns-then-slot-clause-answer
returns-then-slot-clause-answer g c =
    let q = c.self.inside in
    let was = c.self.invariant in
    let e : Entry g.row.K.Denot = record { key = c.args.key; place = c.args.place } in
    let here : e.place < length q.index.items = in_index q.slots.items q.index.items _ e.place c.self.view_is c.requires in
    let absent = slot_at q.index.items e.place _ here c.index-slot.ensures ∙ c.if-slot.true in
    sym (ap (improves g.K.Ord.cmp c.args.key) (ap (λ keys. key_at keys c.args.place) (sym c.self.view_is) ∙ key_at-absent g.met.K.Ord.total q.slots.items q.index.items _ was e here absent))

pub returns-then-slot-clause-put : goal.returns-then-slot-clause-put
returns-then-slot-clause-put g c =
    let q = c.self.inside in
    let was = c.self.invariant in
    let e : Entry g.row.K.Denot = record { key = c.args.key; place = c.args.place } in
    let here : e.place < length q.index.items = in_index q.slots.items q.index.items _ e.place c.self.view_is c.requires in
    let absent = slot_at q.index.items e.place _ here c.index-slot.ensures ∙ c.if-slot.true in
    let wide : length c.sift_up.new.index ≡ length q.index.items = c.sift_up.auto.index ∙ ap length c.as_mut_slice-then-slot.ensures.value ∙ length-set q.index.items e.place c.len-last.result in
    keys_in-along _ c.sift_up.new.slots _ c.sift_up.new.index
    (take_at c.sift_up.new.slots _ _ (c.sift_up.auto.slots ∙ ap length c.as_mut_slice.ensures.value ∙ sym c.push_reserved.new.self.ok.0)) (take_at c.sift_up.new.index _ _ (wide ∙ sym q.index.ok.0))
    ∙ c.sift_up.ensures.keys
    ∙ keys_in-along _ _ _ _ (c.as_mut_slice.ensures.value ∙ c.push_reserved.ensures.items) (c.as_mut_slice-then-slot.ensures.value ∙ ap (set q.index.items e.place) (c.len-last.ensures ∙ q.slots.ok.0))
    ∙ keys-pushed g.met.K.Ord.total q.slots.items q.index.items _ was e here absent
    ∙ ap (λ keys. set keys c.args.place (Some c.args.key)) c.self.view_is

pub index-requires : goal.index-requires
index-requires g c =
    let q = c.self.inside in
    let was = c.self.invariant in
    let e : Entry g.row.K.Denot = record { key = c.args.key; place = c.args.place } in
    let here : e.place < length q.index.items = in_index q.slots.items q.index.items _ e.place c.self.view_is c.requires in
    let is = slot_at q.index.items e.place _ here c.index-slot.ensures in
    let inside = slot_within g.met.K.Ord.total q.slots.items q.index.items _ was e _ here is c.if-slot.false in
    omega (arith, inside, q.slots.ok.0)

pub index_mut-requires-then-is_lt : goal.index_mut-requires-then-is_lt
index_mut-requires-then-is_lt g c =
    let q = c.self.inside in
    let was = c.self.invariant in
    let e : Entry g.row.K.Denot = record { key = c.args.key; place = c.args.place } in
    let here : e.place < length q.index.items = in_index q.slots.items q.index.items _ e.place c.self.view_is c.requires in
    let is = slot_at q.index.items e.place _ here c.index-slot.ensures in
    let inside = slot_within g.met.K.Ord.total q.slots.items q.index.items _ was e _ here is c.if-slot.false in
    omega (arith, inside, q.slots.ok.0)

pub sift_up-requires-then-is_lt-clause-within : goal.sift_up-requires-then-is_lt-clause-within
sift_up-requires-then-is_lt-clause-within g c =
    let q = c.self.inside in
    let was = c.self.invariant in
    let e : Entry g.row.K.Denot = record { key = c.args.key; place = c.args.place } in
    let here : e.place < length q.index.items = in_index q.slots.items q.index.items _ e.place c.self.view_is c.requires in
    let is = slot_at q.index.items e.place _ here c.index-slot.ensures in
    let inside = slot_within g.met.K.Ord.total q.slots.items q.index.items _ was e _ here is c.if-slot.false in
    let long : length c.as_mut_slice-then-is_lt.result.now ≡ length q.slots.items = ap length c.as_mut_slice-then-is_lt.ensures.value ∙ length-set q.slots.items c.index-slot.result.now e in
    omega (arith, inside)

pub sift_up-requires-then-is_lt-clause-linked : goal.sift_up-requires-then-is_lt-clause-linked
sift_up-requires-then-is_lt-clause-linked g c =
    let q = c.self.inside in
    let was = c.self.invariant in
    let e : Entry g.row.K.Denot = record { key = c.args.key; place = c.args.place } in
    let here : e.place < length q.index.items = in_index q.slots.items q.index.items _ e.place c.self.view_is c.requires in
    let is = slot_at q.index.items e.place _ here c.index-slot.ensures in
    IsLinked-along _ _ _ _ c.as_mut_slice-then-is_lt.ensures.value c.as_mut_slice-then-is_lt-2.ensures.value
    (linked-lowered g.met.K.Ord.total q.slots.items q.index.items _ was e c.index-slot.result.now here is c.if-slot.false)

pub sift_up-requires-then-is_lt-clause-order : goal.sift_up-requires-then-is_lt-clause-order
sift_up-requires-then-is_lt-clause-order g c =
    let q = c.self.inside in
    let was = c.self.invariant in
    let e : Entry g.row.K.Denot = record { key = c.args.key; place = c.args.place } in
    let here : e.place < length q.index.items = in_index q.slots.items q.index.items _ e.place c.self.view_is c.requires in
    let is = slot_at q.index.items e.place _ here c.index-slot.ensures in
    let held = c.index.result.now in
    let less : is_lt (g.K.Ord.cmp c.args.key held.key) ≡ true = ap is_lt (sym c.cmp.ensures) ∙ sym c.is_lt.ensures ∙ c.if-is_lt.true in
    IsHeapUpFrom-along _ _ _ _ c.as_mut_slice-then-is_lt.ensures.value refl
    (order-lowered g.met.K.Ord.total q.slots.items q.index.items _ was e c.index-slot.result.now here is c.if-slot.false held c.index.ensures less)

pub invariant_of-self-then-is_lt : goal.invariant_of-self-then-is_lt
invariant_of-self-then-is_lt g c =
    let q = c.self.inside in
    let was = c.self.invariant in
    let e : Entry g.row.K.Denot = record { key = c.args.key; place = c.args.place } in
    let here : e.place < length q.index.items = in_index q.slots.items q.index.items _ e.place c.self.view_is c.requires in
    let is = slot_at q.index.items e.place _ here c.index-slot.ensures in
    let long : length c.sift_up-then-is_lt.new.slots ≡ length q.slots.items = c.sift_up-then-is_lt.auto.slots ∙ ap length c.as_mut_slice-then-is_lt.ensures.value ∙ length-set q.slots.items c.index-slot.result.now e in
    let wide : length c.sift_up-then-is_lt.new.index ≡ length q.index.items = c.sift_up-then-is_lt.auto.index ∙ ap length c.as_mut_slice-then-is_lt-2.ensures.value in
    IsStored-along _ c.sift_up-then-is_lt.new.slots _ c.sift_up-then-is_lt.new.index _ (vec_capacity q.slots) (take_at c.sift_up-then-is_lt.new.slots _ _ (long ∙ sym q.slots.ok.0)) (take_at c.sift_up-then-is_lt.new.index _ _ (wide ∙ sym q.index.ok.0)) refl
    (record {
      linked = c.sift_up-then-is_lt.ensures.linked;
      heap = c.sift_up-then-is_lt.ensures.order;
      within = omega (arith, was.within);
      has_room = omega (arith, was.has_room);
      few = omega (arith, was.few);
    })

pub returns-then-is_lt-clause-answer : goal.returns-then-is_lt-clause-answer
returns-then-is_lt-clause-answer g c =
    let q = c.self.inside in
    let was = c.self.invariant in
    let e : Entry g.row.K.Denot = record { key = c.args.key; place = c.args.place } in
    let here : e.place < length q.index.items = in_index q.slots.items q.index.items _ e.place c.self.view_is c.requires in
    let is = slot_at q.index.items e.place _ here c.index-slot.ensures in
    let held = c.index.result.now in
    let less : is_lt (g.K.Ord.cmp c.args.key held.key) ≡ true = ap is_lt (sym c.cmp.ensures) ∙ sym c.is_lt.ensures ∙ c.if-is_lt.true in
    sym (ap (improves g.K.Ord.cmp c.args.key)
    (ap (λ keys. key_at keys c.args.place) (sym c.self.view_is) ∙ key_at-slot g.met.K.Ord.total q.slots.items q.index.items _ was e c.index-slot.result.now here is c.if-slot.false held c.index.ensures)
    ∙ less)

pub returns-then-is_lt-clause-put : goal.returns-then-is_lt-clause-put
returns-then-is_lt-clause-put g c =
    let q = c.self.inside in
    let was = c.self.invariant in
    let e : Entry g.row.K.Denot = record { key = c.args.key; place = c.args.place } in
    let here : e.place < length q.index.items = in_index q.slots.items q.index.items _ e.place c.self.view_is c.requires in
    let is = slot_at q.index.items e.place _ here c.index-slot.ensures in
    let long : length c.sift_up-then-is_lt.new.slots ≡ length q.slots.items = c.sift_up-then-is_lt.auto.slots ∙ ap length c.as_mut_slice-then-is_lt.ensures.value ∙ length-set q.slots.items c.index-slot.result.now e in
    let wide : length c.sift_up-then-is_lt.new.index ≡ length q.index.items = c.sift_up-then-is_lt.auto.index ∙ ap length c.as_mut_slice-then-is_lt-2.ensures.value in
    keys_in-along _ c.sift_up-then-is_lt.new.slots _ c.sift_up-then-is_lt.new.index (take_at c.sift_up-then-is_lt.new.slots _ _ (long ∙ sym q.slots.ok.0)) (take_at c.sift_up-then-is_lt.new.index _ _ (wide ∙ sym q.index.ok.0))
    ∙ c.sift_up-then-is_lt.ensures.keys
    ∙ keys_in-along _ _ _ _ c.as_mut_slice-then-is_lt.ensures.value c.as_mut_slice-then-is_lt-2.ensures.value
    ∙ keys-lowered g.met.K.Ord.total q.slots.items q.index.items _ was e c.index-slot.result.now here is c.if-slot.false
    ∙ ap (λ keys. set keys c.args.place (Some c.args.key)) c.self.view_is

pub returns-clause-answer : goal.returns-clause-answer
returns-clause-answer g c =
    let q = c.self.inside in
    let was = c.self.invariant in
    let e : Entry g.row.K.Denot = record { key = c.args.key; place = c.args.place } in
    let here : e.place < length q.index.items = in_index q.slots.items q.index.items _ e.place c.self.view_is c.requires in
    let is = slot_at q.index.items e.place _ here c.index-slot.ensures in
    let held = c.index.result.now in
    let not_less : is_lt (g.K.Ord.cmp c.args.key held.key) ≡ false = ap is_lt (sym c.cmp.ensures) ∙ sym c.is_lt.ensures ∙ c.if-is_lt.false in
    sym (ap (improves g.K.Ord.cmp c.args.key)
    (ap (λ keys. key_at keys c.args.place) (sym c.self.view_is) ∙ key_at-slot g.met.K.Ord.total q.slots.items q.index.items _ was e c.index-slot.result.now here is c.if-slot.false held c.index.ensures)
    ∙ not_less)
