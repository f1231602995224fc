use Rattle.std.proofs.Common.{Bool, ℕ, List, sym, subst}
use Rattle.stop_rows.specs.Places.{AreMarks, AreAt}
use Rattle.stop_rows.proofs.PlaceLemmas.{nodes_hold, places_within, places_are}
use Rattle.stop_rows.proofs.places.sites_of.Goals as goal

pub returns-clause-places : goal.returns-clause-places
returns-clause-places c = λ n rows same.
    let are = subst (λ (marks : List Bool). AreMarks c.args.stops.now marks) (sym c.as_slice.ensures.value) c.in_ok-marks.ensures.marks in
    let placed = subst (λ (at : List ℕ). AreAt c.args.stops.now at c.in_ok-places.places.items) c.as_slice-2.ensures.value c.in_ok-places.ensures in
    places_are _ _ _ _ _ are c.in_ok-nodes.ensures.numbers placed n rows same

pub returns-clause-within : goal.returns-clause-within
returns-clause-within c =
    let are = subst (λ (marks : List Bool). AreMarks c.args.stops.now marks) (sym c.as_slice.ensures.value) c.in_ok-marks.ensures.marks in
    let placed = subst (λ (at : List ℕ). AreAt c.args.stops.now at c.in_ok-places.places.items) c.as_slice-2.ensures.value c.in_ok-places.ensures in
    places_within _ _ _ _ _ are c.in_ok-nodes.ensures.numbers placed

pub returns-clause-hold : goal.returns-clause-hold
returns-clause-hold c = λ core held.
    let are = subst (λ (marks : List Bool). AreMarks c.args.stops.now marks) (sym c.as_slice.ensures.value) c.in_ok-marks.ensures.marks in
    nodes_hold core _ _ _ _ are c.in_ok-nodes.ensures.numbers held
