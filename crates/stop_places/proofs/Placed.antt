-- The placed stops, by one stop more, and by the table's vertices.
use Rattle.std.proofs.Common.{◌≡◌, ◌∙◌, ◌+◌, ◌<◌, ◌≤◌, ℕ, zero, suc, List, [], ◌∷◌, ◌++◌, length, Option, Some, None, refl, sym, ap, subst, arith, inl, inr, length-append}
use Rattle.std.specs.Prelude.{slice_get, Result, Ok, Err, OnOk, IfOk, IfSome, All}
use Rattle.std.proofs.lemmas.Bool.{cases_lt}
use Rattle.std.proofs.lemmas.Option.{slice_get_within}
use Rattle.gtfs_feed.specs.declared.feed.FeedStop.{FeedStop}
use Rattle.move_model.specs.declared.network.NodeNo.{NodeNo}
use Rattle.move_model.specs.declared.network.Stop.{Stop}
use Rattle.move_model.specs.declared.refusal.Refusal.{Refusal}
use Rattle.move_model.specs.declared.refusal.Stopped.{Stopped}
use Rattle.stop_places.specs.declared.near.Near.{Near}
use Rattle.stop_places.specs.Places.{IsPlace, IsPlaceBy, IsPlacedStop, ArePlaced, IsNoPlaceRefusal}
use Rattle.stop_places.proofs.PlaceLemmas.{Stands, there, all_stand}

front : {X : Type 0} (xs : List X) (x : X) (k : ℕ) → k < length xs → slice_get (xs ++ x ∷ []) k ≡ slice_get xs k
front [] x k lt = absurd (omega arith)
front (y ∷ xs) x zero lt = refl
front (y ∷ xs) x (suc k) lt = front xs x k (omega arith)

last : {X : Type 0} (xs : List X) (x : X) → slice_get (xs ++ x ∷ []) (length xs) ≡ Some x
last [] x = refl
last (y ∷ xs) x = last xs x

same : {X : Type 0} (o : Option X) (x y : X) → o ≡ Some x → o ≡ Some y → x ≡ y
same o x y a b = let e : Some x ≡ Some y = sym a ∙ b in cc e

-- each of the stops so far is at its vertex
abbrev pub EachPlaced : (List ℕ → Option NodeNo) → Option Near → List FeedStop → List Stop → Type 0
EachPlaced vertex_of near stops placed =
    (i : ℕ) (stop : FeedStop) (at : Stop) → slice_get stops i ≡ Some stop → slice_get placed i ≡ Some at → IsPlacedStop vertex_of near stop at

pub placed_more : (vertex_of : List ℕ → Option NodeNo) (near : Option Near) (stops : List FeedStop) (old new : List Stop) (k : ℕ) (stop : FeedStop) (next : Stop)
    → length old ≡ k → EachPlaced vertex_of near stops old → slice_get stops k ≡ Some stop → IsPlacedStop vertex_of near stop next → new ≡ old ++ next ∷ []
    → (length new ≡ k + 1) × EachPlaced vertex_of near stops new
placed_more vertex_of near stops old new k stop next long each here stands grows =
    let longer : length new ≡ k + 1 = ap length grows ∙ length-append old (next ∷ []) ∙ omega (arith, long) in (
      longer,
      λ i s at of_stops of_new.
          let pushed : slice_get (old ++ next ∷ []) i ≡ Some at = rw (← grows) of_new in
          elim (cases_lt i k) [
            | inl lt ↦ each i s at of_stops (sym (front old next i (omega (arith, long, lt))) ∙ pushed)
            | inr ge ↦
                let within : i < length new = slice_get_within new i at of_new in
                let is : i ≡ length old = omega (arith, within, longer, ge, long) in
                let at_is : next ≡ at = same (slice_get (old ++ next ∷ []) i) next at (rw is (last old next)) pushed in
                let stop_is : stop ≡ s = same (slice_get stops i) stop s (rw (is, long) here) of_stops in
                subst (IsPlacedStop vertex_of near s) at_is (subst (λ (f : FeedStop). IsPlacedStop vertex_of near f next) stop_is stands)
          ],
    )

pub refused_at : (vertex_of : List ℕ → Option NodeNo) (near : Option Near) (stops : List FeedStop) (placed : List Stop) (k : ℕ)
    → length placed ≡ k → EachPlaced vertex_of near stops placed
    → (i : ℕ) (other : FeedStop) → i < k → slice_get stops i ≡ Some other → (v : NodeNo) × IsPlace vertex_of near other (Some v)
refused_at vertex_of near stops placed k long each i other lt is =
    let at = there placed i (omega (arith, long, lt)) in
    (at.0.node, (each i other at.0 is at.1).stands)

-- another source of the same vertices
pub placed_by : (f g : List ℕ → Option NodeNo) (near : Option Near) (stops : List FeedStop) (placed : List Stop) → ((id : List ℕ) → f id ≡ g id)
    → ArePlaced f near stops placed → ArePlaced g near stops placed
placed_by f g near stops placed eq p =
    record {
      as_many = p.as_many;
      each = λ i stop at of_stops of_placed.
          let s = p.each i stop at of_stops of_placed in
          record { named = s.named; stands = subst (λ (o : Option NodeNo). IsPlaceBy o near stop (Some at.node)) (eq stop.name) s.stands };
    }

pub refused_by : (f g : List ℕ → Option NodeNo) (near : Option Near) (stops : List FeedStop) (r : Refusal) → ((id : List ℕ) → f id ≡ g id)
    → IsNoPlaceRefusal f near stops r → IsNoPlaceRefusal g near stops r
refused_by f g near stops r eq n =
    record {
      place = n.place;
      stop = n.stop;
      there = n.there;
      none = subst (λ (o : Option NodeNo). IsPlaceBy o near n.stop None) (eq n.stop.name) n.none;
      earlier = λ i other lt is. let v = n.earlier i other lt is in (v.0, subst (λ (o : Option NodeNo). IsPlaceBy o near other (Some v.0)) (eq other.name) v.1);
      of_row = n.of_row;
    }

-- what the placed stops say, where they were placed
pub all_placed : (f g : List ℕ → Option NodeNo) (near : Option Near) (stops : List FeedStop) (r : Result (List Stop) Stopped) → ((id : List ℕ) → f id ≡ g id)
    → IfOk r (ArePlaced f near stops) → IfOk r (ArePlaced g near stops)
all_placed f g near stops (Ok placed) eq h = placed_by f g near stops placed eq h
all_placed f g near stops (Err e) eq h = tt

pub all_vertices : (nodes : ℕ) (f : List ℕ → Option NodeNo) (near : Option Near) (stops : List FeedStop) (r : Result (List Stop) Stopped) → ((id : List ℕ) → IfSome (f id) (Stands nodes))
    → IfSome near (λ near. length near.grid.now ≡ nodes) → IfOk r (ArePlaced f near stops) → IfOk r (All (λ stop. (1 ≤ stop.node.0) × (stop.node.0 ≤ nodes)))
all_vertices nodes f near stops (Ok placed) given points h = all_stand nodes f near stops placed given points h
all_vertices nodes f near stops (Err e) given points h = tt

pub all_as_many : (f : List ℕ → Option NodeNo) (near : Option Near) (stops : List FeedStop) (r : Result (List Stop) Stopped)
    → IfOk r (ArePlaced f near stops) → IfOk r (λ placed. length placed ≡ length stops)
all_as_many f near stops (Ok placed) h = h.as_many
all_as_many f near stops (Err e) h = tt

pub on_ok : {T E : Type 0} (r : Result T E) (P : Type 0) → P → OnOk r P
on_ok (Ok x) P p = p
on_ok (Err e) P p = tt
