use Rattle.std.proofs.Common.{length, sym, ap, ◌∙◌, subst, eqb-true, eq-eqb}
use Rattle.walk_queue.specs.Keys.{key_at, IsEmpty}
use Rattle.walk_queue.proofs.Least.{IsEmpty-no_slots, no_slots-IsEmpty}
use Rattle.walk_queue.proofs.queue.MinQueue.is_empty.Goals as goal

pub returns : goal.returns
returns g c =
    let q = c.self.inside in (
      λ empty place. ap (λ keys. key_at keys place) (sym c.self.view_is) ∙ IsEmpty-no_slots q.slots.items q.index.items (sym q.slots.ok.0 ∙ eqb-true _ 0 (sym c.is_empty.ensures ∙ empty)) place,
      λ none. c.is_empty.ensures ∙ eq-eqb _ 0 (q.slots.ok.0 ∙ ap length (no_slots-IsEmpty q.slots.items q.index.items c.self.invariant.linked (subst IsEmpty (sym c.self.view_is) none))),
    )
