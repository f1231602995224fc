use Rattle.std.proofs.Common.{◌≡◌, None, length, vec_capacity, set, sym, refl, ap, ◌∙◌, arith, subst, length-set, eqb-true}
use Rattle.std.proofs.lemmas.Bool.{true≢false}
use Rattle.std.proofs.lemmas.List.{take_at}
use Rattle.std.proofs.lemmas.Option.{none-some}
use Rattle.walk_queue.specs.Keys.{key_at, IsLeast}
use Rattle.walk_queue.proofs.Least.{IsEmpty-no_slots}
use Rattle.walk_queue.proofs.Stored.{keys_in-along, IsLinked-along, IsHeapDownFrom-along, IsStored-along, top_least, order-taken, linked-last, keys-last, heap-last, linked-moved, keys-moved, some_left, none_left}
use Rattle.walk_queue.proofs.queue.MinQueue.take_least.Goals as goal
use Rattle.walk_queue.proofs.queue.MinQueue.take_least.Goals.{then-not-is_empty, else-not-is_empty}

pub returns-then-is_empty-clause-none : goal.returns-then-is_empty-clause-none
returns-then-is_empty-clause-none g c =
    let q = c.self.inside in (
      λ _ place. ap (λ keys. key_at keys place) (sym c.self.view_is) ∙ IsEmpty-no_slots q.slots.items q.index.items (sym q.slots.ok.0 ∙ eqb-true _ 0 (sym c.is_empty.ensures ∙ c.if-is_empty.true)) place,
      λ _. refl,
    )

pub sift_down-requires-clause-linked : goal.sift_down-requires-clause-linked
sift_down-requires-clause-linked g c =
    let q = c.self.inside in
    let s = c.swap_remove-top.ensures in
    let left = c.swap_remove-top.new.self in
    let more = some_left left.len (length left.items) left.ok.0 (sym c.is_empty-2.ensures ∙ c.if-not-is_empty.true) in
    IsLinked-along _ _ _ _ c.as_mut_slice.ensures.value c.as_mut_slice-then-not-is_empty.ensures.value
    (linked-moved g.met.K.Ord.total q.slots.items q.index.items _ c.self.invariant left.items c.swap_remove-top.result q.slots.len left.len q.slots.ok.0 left.ok.0 s.len s.value s.by_index
    c.index.result.now more c.index.ensures)

pub sift_down-requires-clause-order : goal.sift_down-requires-clause-order
sift_down-requires-clause-order g c =
    let q = c.self.inside in
    let s = c.swap_remove-top.ensures in
    let left = c.swap_remove-top.new.self in
    IsHeapDownFrom-along _ _ _ c.as_mut_slice.ensures.value
    (order-taken g.met.K.Ord.total q.slots.items q.index.items _ c.self.invariant left.items c.swap_remove-top.result q.slots.len left.len q.slots.ok.0 left.ok.0 s.len s.value s.by_index)

pub invariant_of-self : goal.invariant_of-self
invariant_of-self g c =
    let q = c.self.inside in
    let was = c.self.invariant in
    let left = c.swap_remove-top.new.self in
    let long : length c.sift_down.new.slots ≡ length left.items = c.sift_down.auto.slots ∙ ap length c.as_mut_slice.ensures.value in
    let wide : length c.sift_down.new.index ≡ length q.index.items =
    c.sift_down.auto.index ∙ ap length c.as_mut_slice-then-not-is_empty.ensures.value ∙ length-set (set q.index.items c.swap_remove-top.result.place 4294967295) c.index.result.now.place 0
    ∙ length-set q.index.items c.swap_remove-top.result.place 4294967295 in
    IsStored-along _ c.sift_down.new.slots _ c.sift_down.new.index _ (vec_capacity q.slots)
    (take_at c.sift_down.new.slots _ _ (long ∙ sym left.ok.0)) (take_at c.sift_down.new.index _ _ (wide ∙ sym q.index.ok.0)) c.swap_remove-top.ensures.capacity
    (record {
      linked = c.sift_down.ensures.linked;
      heap = c.sift_down.ensures.order;
      within = omega (arith, was.within, c.swap_remove-top.ensures.len, left.ok.0, q.slots.ok.0);
      has_room = omega (arith, was.has_room);
      few = omega (arith, was.few);
    })

pub invariant_of-self-else-not-is_empty : goal.invariant_of-self-else-not-is_empty
invariant_of-self-else-not-is_empty g c =
    let q = c.self.inside in
    let was = c.self.invariant in
    let s = c.swap_remove-top.ensures in
    let left = c.swap_remove-top.new.self in
    let none : length left.items ≡ 0 = none_left left.len _ left.ok.0 (sym c.is_empty-2.ensures ∙ c.if-not-is_empty.false) in
    let wide = length-set q.index.items c.swap_remove-top.result.place 4294967295 in
    record {
      linked = linked-last g.met.K.Ord.total q.slots.items q.index.items _ was left.items c.swap_remove-top.result q.slots.len left.len q.slots.ok.0 left.ok.0 s.len s.value s.by_index none;
      heap = heap-last g.met.K.Ord.total q.slots.items q.index.items _ was left.items c.swap_remove-top.result q.slots.len left.len q.slots.ok.0 left.ok.0 s.len s.value s.by_index none;
      within = omega arith;
      has_room = omega (arith, was.has_room, wide, s.capacity);
      few = omega (arith, was.few, wide);
    }

pub returns-clause-none : goal.returns-clause-none
returns-clause-none g c =
    let q = c.self.inside in
    let s = c.swap_remove-top.ensures in
    let left = c.swap_remove-top.new.self in
    let least = top_least g.met.K.Ord.total q.slots.items q.index.items _ c.self.invariant left.items c.swap_remove-top.result q.slots.len left.len q.slots.ok.0 left.ok.0 s.len s.value s.by_index in (
      λ h. absurd (true≢false h),
      λ none. absurd (none-some c.swap_remove-top.result.key (sym (none c.swap_remove-top.result.place) ∙ ap (λ keys. key_at keys c.swap_remove-top.result.place) (sym c.self.view_is) ∙ least.held)),
    )

pub returns-clause-least : goal.returns-clause-least
returns-clause-least g c =
    let q = c.self.inside in
    let s = c.swap_remove-top.ensures in
    let left = c.swap_remove-top.new.self in
    let top = c.swap_remove-top.result in
    subst (λ keys. IsLeast g.K.Ord.cmp keys top.place top.key) c.self.view_is
    (top_least g.met.K.Ord.total q.slots.items q.index.items _ c.self.invariant left.items top q.slots.len left.len q.slots.ok.0 left.ok.0 s.len s.value s.by_index)

pub returns-clause-taken : goal.returns-clause-taken
returns-clause-taken g c =
    let q = c.self.inside in
    let was = c.self.invariant in
    let s = c.swap_remove-top.ensures in
    let left = c.swap_remove-top.new.self in
    let top = c.swap_remove-top.result in
    elim c.if-not-is_empty.branch [
      | then-not-is_empty w ↦
          let more = some_left left.len (length left.items) left.ok.0 (sym c.is_empty-2.ensures ∙ w.if-not-is_empty.true) in
          let long : length w.sift_down.new.slots ≡ length left.items = w.sift_down.auto.slots ∙ ap length w.as_mut_slice.ensures.value in
          let wide : length w.sift_down.new.index ≡ length q.index.items =
          w.sift_down.auto.index ∙ ap length w.as_mut_slice-then-not-is_empty.ensures.value ∙ length-set (set q.index.items top.place 4294967295) w.index.result.now.place 0
          ∙ length-set q.index.items top.place 4294967295 in
          w.self-is
          ∙ keys_in-along _ w.sift_down.new.slots _ w.sift_down.new.index (take_at w.sift_down.new.slots _ _ (long ∙ sym left.ok.0)) (take_at w.sift_down.new.index _ _ (wide ∙ sym q.index.ok.0))
          ∙ w.sift_down.ensures.keys
          ∙ keys_in-along _ _ _ _ w.as_mut_slice.ensures.value w.as_mut_slice-then-not-is_empty.ensures.value
          ∙ keys-moved g.met.K.Ord.total q.slots.items q.index.items _ was left.items top q.slots.len left.len q.slots.ok.0 left.ok.0 s.len s.value s.by_index w.index.result.now more w.index.ensures
          ∙ ap (λ keys. set keys top.place None) c.self.view_is
      | else-not-is_empty w ↦
          let none : length left.items ≡ 0 = none_left left.len _ left.ok.0 (sym c.is_empty-2.ensures ∙ w.if-not-is_empty.false) in
          w.self-is
          ∙ keys-last g.met.K.Ord.total q.slots.items q.index.items _ was left.items top q.slots.len left.len q.slots.ok.0 left.ok.0 s.len s.value s.by_index none
          ∙ ap (λ keys. set keys top.place None) c.self.view_is
    ]
