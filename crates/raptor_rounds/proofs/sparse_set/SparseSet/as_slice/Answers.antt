use Rattle.std.proofs.Common.{◌≡◌, ◌↔◌, ℕ, List, Bool, true, false, map, take, nat_lt, subst, sym}
use Rattle.std.specs.Prelude.{Contains, slice_index_or}
use Rattle.raptor_rounds.proofs.SetLemmas.{numbers_in}
use Rattle.raptor_rounds.proofs.sparse_set.SparseSet.as_slice.Goals as goal

pub returns-clause-numbers : goal.returns-clause-numbers
returns-clause-numbers c x =
    let items = c.self.inside.items.items in
    let places = c.self.inside.places.items in
    let count = c.self.inside.count in
    subst (λ (l : List Bool). Contains (take count c.deref.result.now) x ↔ (slice_index_or l x false ≡ true)) c.self.view_is
    (subst (λ (xs : List ℕ). Contains (take count xs) x ↔ (slice_index_or (map (λ place. nat_lt place count) places) x false ≡ true)) (sym c.deref.ensures.value)
    (numbers_in items places count c.self.invariant.0 c.self.invariant.1 x))
