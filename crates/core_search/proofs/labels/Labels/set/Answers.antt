use Rattle.std.proofs.Common.{◌≡◌, ◌≢◌, ◌-◌, ◌<◌, ℕ, List, Option, length, slice_index, slice_set, sym, ap, ◌∙◌, subst, arith}
use Rattle.std.proofs.lemmas.Grind.{get_or_default_zero}
use Rattle.core_search.specs.declared.label.Label.{Label}
use Rattle.core_search.specs.declared.labels.Slot.{Slot}
use Rattle.core_search.specs.Stored.{no_slot, labels_in, IsStored}
use Rattle.core_search.proofs.StoreLemmas.{stored_pushed, labels_pushed, slot_low, stored_replaced, labels_replaced, many_labels}
use Rattle.core_search.proofs.labels.Labels.set.Goals as goal

pub invariant_of-self : goal.invariant_of-self
invariant_of-self c =
    let slots = c.self.inside.slots.items in
    let index = c.self.inside.index.items in
    let s : Slot = record { label = c.args.label; node = c.args.node } in
    let low : c.args.node.0 - 1 < length c.self.inside.index.items = omega (arith, many_labels slots index, ap length c.self.view_is, c.requires.from_one, c.requires.exists) in
    let none : slice_index c.self.inside.index.items (c.args.node.0 - 1) ≡ no_slot = sym (get_or_default_zero index (c.args.node.0 - 1) c.index-at.result.now low) ∙ sym c.index-at.ensures ∙ c.if-at.true in
    let last : c.len.result ≡ length c.self.inside.slots.items = c.len.ensures ∙ c.self.inside.slots.ok.0 in
    rw (c.push_reserved.ensures.items, c.push_reserved.ensures.capacity, last)
    (stored_pushed slots index _ c.self.invariant s c.requires.from_one low none _ c.self.invariant.enough)

pub returns-then-at : goal.returns-then-at
returns-then-at c =
    let slots = c.self.inside.slots.items in
    let index = c.self.inside.index.items in
    let s : Slot = record { label = c.args.label; node = c.args.node } in
    let low : c.args.node.0 - 1 < length c.self.inside.index.items = omega (arith, many_labels slots index, ap length c.self.view_is, c.requires.from_one, c.requires.exists) in
    let none : slice_index c.self.inside.index.items (c.args.node.0 - 1) ≡ no_slot = sym (get_or_default_zero index (c.args.node.0 - 1) c.index-at.result.now low) ∙ sym c.index-at.ensures ∙ c.if-at.true in
    let last : c.len.result ≡ length c.self.inside.slots.items = c.len.ensures ∙ c.self.inside.slots.ok.0 in
    ap (λ (xs : List Slot). labels_in xs (slice_set c.self.inside.index.items (c.args.node.0 - 1) c.len.result)) c.push_reserved.ensures.items
    ∙ (rw last (labels_pushed slots index _ c.self.invariant s c.requires.from_one low none))
    ∙ ap (λ (ls : List (Option Label)). slice_set ls c.args.node.0 c.args.label) c.self.view_is

pub index_mut-requires-else-at : goal.index_mut-requires-else-at
index_mut-requires-else-at c =
    let slots = c.self.inside.slots.items in
    let index = c.self.inside.index.items in
    let s : Slot = record { label = c.args.label; node = c.args.node } in
    let low : c.args.node.0 - 1 < length c.self.inside.index.items = omega (arith, many_labels slots index, ap length c.self.view_is, c.requires.from_one, c.requires.exists) in
    let is : slice_index c.self.inside.index.items (c.args.node.0 - 1) ≡ c.index-at.result.now = sym (get_or_default_zero index (c.args.node.0 - 1) c.index-at.result.now low) ∙ sym c.index-at.ensures in
    let some : slice_index c.self.inside.index.items (c.args.node.0 - 1) ≢ no_slot = λ e. c.if-at.false (sym is ∙ e) in
    let inside = slot_low slots index _ c.self.invariant s c.requires.from_one low some in
    omega (arith, inside, is, c.self.inside.slots.ok.0)

pub invariant_of-self-else-at : goal.invariant_of-self-else-at
invariant_of-self-else-at c =
    let slots = c.self.inside.slots.items in
    let index = c.self.inside.index.items in
    let s : Slot = record { label = c.args.label; node = c.args.node } in
    let low : c.args.node.0 - 1 < length c.self.inside.index.items = omega (arith, many_labels slots index, ap length c.self.view_is, c.requires.from_one, c.requires.exists) in
    let is : slice_index c.self.inside.index.items (c.args.node.0 - 1) ≡ c.index-at.result.now = sym (get_or_default_zero index (c.args.node.0 - 1) c.index-at.result.now low) ∙ sym c.index-at.ensures in
    let some : slice_index c.self.inside.index.items (c.args.node.0 - 1) ≢ no_slot = λ e. c.if-at.false (sym is ∙ e) in
    subst (λ (at : ℕ). IsStored (slice_set c.self.inside.slots.items at (record { label = c.args.label; node = c.args.node })) c.self.inside.index.items c.self.inside.slots.cap) is
    (stored_replaced slots index _ c.self.invariant s c.requires.from_one low some)

pub returns-else-at : goal.returns-else-at
returns-else-at c =
    let slots = c.self.inside.slots.items in
    let index = c.self.inside.index.items in
    let s : Slot = record { label = c.args.label; node = c.args.node } in
    let low : c.args.node.0 - 1 < length c.self.inside.index.items = omega (arith, many_labels slots index, ap length c.self.view_is, c.requires.from_one, c.requires.exists) in
    let is : slice_index c.self.inside.index.items (c.args.node.0 - 1) ≡ c.index-at.result.now = sym (get_or_default_zero index (c.args.node.0 - 1) c.index-at.result.now low) ∙ sym c.index-at.ensures in
    let some : slice_index c.self.inside.index.items (c.args.node.0 - 1) ≢ no_slot = λ e. c.if-at.false (sym is ∙ e) in
    subst (λ (at : ℕ). labels_in (slice_set c.self.inside.slots.items at (record { label = c.args.label; node = c.args.node })) c.self.inside.index.items
    ≡ slice_set (labels_in c.self.inside.slots.items c.self.inside.index.items) c.args.node.0 c.args.label) is
    (labels_replaced slots index _ c.self.invariant s c.requires.from_one low some)
    ∙ ap (λ (ls : List (Option Label)). slice_set ls c.args.node.0 c.args.label) c.self.view_is
