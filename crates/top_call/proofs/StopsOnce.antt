-- The stops are placed in one way, and where they are placed no rule is broken.
use Rattle.std.proofs.Common.{◌≡◌, ◌∙◌, ℕ, ℤ, ◌<◌, List, Option, Some, None, refl, sym, ap, arith, inl, inr}
use Rattle.std.proofs.lemmas.Bool.{cases_order}
use Rattle.std.proofs.lemmas.List.{same_lists}
use Rattle.gtfs_feed.specs.declared.feed.Feed.{Feed}
use Rattle.gtfs_feed.specs.declared.feed.FeedStop.{FeedStop}
use Rattle.move_model.specs.declared.network.NodeNo.{NodeNo}
use Rattle.move_model.specs.declared.network.Stop.{Stop}
use Rattle.move_model.specs.declared.refusal.FileKind.TheVariants as kind
use Rattle.move_model.specs.declared.refusal.Refusal.{Refusal}
use Rattle.street_graph.specs.declared.point.Point.{Point}
use Rattle.stop_match.specs.Nearest.{IsNearest}
use Rattle.stop_places.specs.declared.near.Near.{Near}
use Rattle.stop_places.specs.Places.{IsNearPlace, IsPlaceBy, ArePlaced, IsPlaceRefusal}
use Rattle.stop_places.specs.Table.{table_vertex}
use Rattle.stop_places.proofs.Exact.{not_both, one_refusal}
use Rattle.top_call.specs.declared.status.Status.{Status}
use Rattle.top_call.specs.declared.status.Status.TheVariants as status
use Rattle.top_call.specs.Words.{Plan}
use Rattle.top_call.specs.Input.{Held, points_of, IsScaled, AreStopsIn}
use Rattle.top_call.specs.Rejected.{RejectsPlaces, RejectsStops, by_points, by_places, by_places_file, by_places_rule}
use Rattle.top_call.proofs.StreetsOnce.{readable_not_both, file_once}
use Rattle.top_call.proofs.ListLemmas.{slice_at, same_index}
use Rattle.top_call.proofs.PointsOnce.{points_once, points_not_both}
use Rattle.top_call.proofs.StreetsRejected.{points_rejected_once}

-- a vertex that is nearest is no farther than another
no-less : (points : List Point) (lat lon : ℤ) (scale : ℕ) (v w : NodeNo) → IsNearest points lat lon scale v → IsNearest points lat lon scale w → v.0 < w.0 → ⊥
no-less points lat lon scale v w a b lt = omega (arith, a.nearest w b.point b.stands, b.first v a.point a.stands lt)

nearest-once : (points : List Point) (lat lon : ℤ) (scale : ℕ) (v w : NodeNo) → IsNearest points lat lon scale v → IsNearest points lat lon scale w → v ≡ w
nearest-once points lat lon scale v w a b =
    elim (cases_order v.0 w.0) [
      | inl same ↦ λ i. record { 0 = same i }
      | inr (inl lt) ↦ absurd (no-less points lat lon scale v w a b lt)
      | inr (inr gt) ↦ absurd (no-less points lat lon scale w v b a gt)
    ]

-- the points and the scale, as they are looked at twice
record SameNear (near other : Option Near) : Type 0 where
  points : points_of near ≡ points_of other
  scales : (n m : Near) → near ≡ Some n → other ≡ Some m → n.scale ≡ m.scale

scaled-as : (plan : Plan) (near : Option Near) (n : Near) → IsScaled plan near → near ≡ Some n → n.scale ≡ plan.scale
scaled-as plan None n a e = cc e
scaled-as plan (Some m) n a e = let same : m ≡ n = cc e in rw same at a

same-near : (plan : Plan) (near other : Option Near) → points_of near ≡ points_of other → IsScaled plan near → IsScaled plan other → SameNear near other
same-near plan near other e a b = record { points = e; scales = λ n m x y. scaled-as plan near n a x ∙ sym (scaled-as plan other m b y) }

near-again : (near other : Option Near) (lat lon : Option ℤ) (v : NodeNo) → SameNear near other → IsNearPlace near lat lon (Some v) → IsNearPlace other lat lon (Some v)
near-again None None lat lon v s h = h
near-again None (Some m) lat lon v s h = cc h
near-again (Some n) None lat lon v s h = let e = s.points in cc e
near-again (Some n) (Some m) None lon v s h = h
near-again (Some n) (Some m) (Some x) None v s h = h
near-again (Some n) (Some m) (Some x) (Some y) v s h =
    let e = s.points in
    let points : n.grid.now ≡ m.grid.now = cc e in
    rw (← points, ← s.scales n m refl refl) h

place-again : (o : Option NodeNo) (near other : Option Near) (stop : FeedStop) (v : NodeNo) → SameNear near other → IsPlaceBy o near stop (Some v) → IsPlaceBy o other stop (Some v)
place-again None near other stop v s h = near-again near other stop.lat stop.lon v s h
place-again (Some w) near other stop v s h = h

placed-again : (vertex_of : List ℕ → Option NodeNo) (near other : Option Near) (stops : List FeedStop) (placed : List Stop) → SameNear near other
    → ArePlaced vertex_of near stops placed → ArePlaced vertex_of other stops placed
placed-again vertex_of near other stops placed s a = record {
  as_many = a.as_many;
  each = λ i stop at x y. record {
    named = (a.each i stop at x y).named;
    stands = place-again (vertex_of stop.name) near other stop at.node s (a.each i stop at x y).stands;
  };
}

near-once : (near : Option Near) (lat lon : Option ℤ) (v w : NodeNo) → IsNearPlace near lat lon (Some v) → IsNearPlace near lat lon (Some w) → v ≡ w
near-once None lat lon v w a b = cc a
near-once (Some n) None lon v w a b = cc a
near-once (Some n) (Some x) None v w a b = cc a
near-once (Some n) (Some x) (Some y) v w a b = nearest-once n.grid.now x y n.scale v w a b

place-once : (o : Option NodeNo) (near : Option Near) (stop : FeedStop) (v w : NodeNo) → IsPlaceBy o near stop (Some v) → IsPlaceBy o near stop (Some w) → v ≡ w
place-once None near stop v w a b = near-once near stop.lat stop.lon v w a b
place-once (Some u) near stop v w a b = let e : Some v ≡ Some w = a ∙ sym b in cc e

same-stop : (s t : Stop) → s.node ≡ t.node → s.name ≡ t.name → s ≡ t
same-stop s t a b = λ i. record { node = a i; name = b i }

placed-once : (vertex_of : List ℕ → Option NodeNo) (near : Option Near) (stops : List FeedStop) (placed other : List Stop) → ArePlaced vertex_of near stops placed
    → ArePlaced vertex_of near stops other → placed ≡ other
placed-once vertex_of near stops placed other a b =
    same_lists placed other (a.as_many ∙ sym b.as_many) (λ k d lt.
    let stop = slice_at stops k (omega (arith, a.as_many)) in
    let left = slice_at placed k lt in
    let right = slice_at other k (omega (arith, a.as_many, b.as_many)) in
    let x = a.each k stop.0 left.0 stop.1 left.1 in
    let y = b.each k stop.0 right.0 stop.1 right.1 in
    let node = place-once (vertex_of stop.0.name) near stop.0 left.0.node right.0.node x.stands y.stands in
    let same = same-stop left.0 right.0 node (x.named ∙ sym y.named) in
    same_index placed other k d (left.1 ∙ ap (λ s. Some s) same ∙ sym right.1))

near-of : (plan : Plan) (held : Held) (feed : Feed) (nodes : ℕ) (stops other : List Stop) → (a : AreStopsIn plan held feed nodes stops) → (b : AreStopsIn plan held feed nodes other) → SameNear a.near b.near
near-of plan held feed nodes stops other a b =
    same-near plan a.near b.near (points_once plan held nodes (points_of a.near) (points_of b.near) a.points b.points) a.scaled b.scaled

pub stops_once : (plan : Plan) (held : Held) (feed : Feed) (nodes : ℕ) (stops other : List Stop) → AreStopsIn plan held feed nodes stops → AreStopsIn plan held feed nodes other → stops ≡ other
stops_once plan held feed nodes stops other a b =
    placed-once (table_vertex (held kind.StopNodes)) b.near feed.stops stops other
    (placed-again (table_vertex (held kind.StopNodes)) a.near b.near feed.stops stops (near-of plan held feed nodes stops other a b) a.placed) b.placed

places-not-both : (plan : Plan) (held : Held) (feed : Feed) (nodes : ℕ) (stops : List Stop) (near : Option Near) (s : Status) → (a : AreStopsIn plan held feed nodes stops)
    → SameNear a.near near → RejectsPlaces held near feed.stops nodes s → ⊥
places-not-both plan held feed nodes stops near s a same (by_places_file r) = readable_not_both held kind.StopNodes _ a.readable r
places-not-both plan held feed nodes stops near s a same (by_places_rule readable refused) =
    not_both feed.stops nodes (held kind.StopNodes) near stops _ a.accepted
    (placed-again (table_vertex (held kind.StopNodes)) a.near near feed.stops stops same a.placed) refused

pub stops_not_both : (plan : Plan) (held : Held) (feed : Feed) (nodes : ℕ) (stops : List Stop) (s : Status) → AreStopsIn plan held feed nodes stops
    → RejectsStops plan held feed nodes s → ⊥
stops_not_both plan held feed nodes stops s a (by_points r) = points_not_both plan held nodes (points_of a.near) _ a.points r
stops_not_both plan held feed nodes stops s a (by_places near points scaled r) =
    places-not-both plan held feed nodes stops near _ a
    (same-near plan a.near near (points_once plan held nodes (points_of a.near) (points_of near) a.points points) a.scaled scaled) r

-- a stop without a place, as it is looked at again
no-near-again : (near other : Option Near) (lat lon : Option ℤ) → SameNear near other → IsNearPlace near lat lon None → IsNearPlace other lat lon None
no-near-again None None lat lon s h = h
no-near-again None (Some m) lat lon s h = let e = s.points in cc e
no-near-again (Some n) None lat lon s h = refl
no-near-again (Some n) (Some m) None lon s h = h
no-near-again (Some n) (Some m) (Some x) None s h = h
no-near-again (Some n) (Some m) (Some x) (Some y) s h = h

no-place-again : (o : Option NodeNo) (near other : Option Near) (stop : FeedStop) → SameNear near other → IsPlaceBy o near stop None → IsPlaceBy o other stop None
no-place-again None near other stop s h = no-near-again near other stop.lat stop.lon s h
no-place-again (Some w) near other stop s h = h

refusal-again : (stops : List FeedStop) (nodes : ℕ) (bytes : Option (List ℕ)) (near other : Option Near) (r : Refusal) → SameNear near other
    → IsPlaceRefusal stops nodes bytes near r → IsPlaceRefusal stops nodes bytes other r
refusal-again stops nodes bytes near other r s (inl h) = inl h
refusal-again stops nodes bytes near other r s (inr h) = inr (
  h.0,
  record {
    place = h.1.place;
    stop = h.1.stop;
    there = h.1.there;
    none = no-place-again (table_vertex bytes h.1.stop.name) near other h.1.stop s h.1.none;
    earlier = λ i stop lt at.
        let v = h.1.earlier i stop lt at in
        (v.0, place-again (table_vertex bytes stop.name) near other stop v.0 s v.1);
    of_row = h.1.of_row;
  },
)

places-once : (held : Held) (near other : Option Near) (stops : List FeedStop) (nodes : ℕ) (s t : Status) → SameNear near other → RejectsPlaces held near stops nodes s
    → RejectsPlaces held other stops nodes t → s ≡ t
places-once held near other stops nodes s t same (by_places_file a) (by_places_file b) = file_once held kind.StopNodes _ _ a b
places-once held near other stops nodes s t same (by_places_file a) (by_places_rule readable b) = absurd (readable_not_both held kind.StopNodes _ readable a)
places-once held near other stops nodes s t same (by_places_rule readable a) (by_places_file b) = absurd (readable_not_both held kind.StopNodes _ readable b)
places-once held near other stops nodes s t same (by_places_rule readable a) (by_places_rule readable' b) =
    ap (λ r. status.Refused r) (one_refusal stops nodes (held kind.StopNodes) other _ _ (refusal-again stops nodes (held kind.StopNodes) near other _ same a) b)

pub stops_rejected_once : (plan : Plan) (held : Held) (feed : Feed) (nodes : ℕ) (s t : Status) → RejectsStops plan held feed nodes s → RejectsStops plan held feed nodes t → s ≡ t
stops_rejected_once plan held feed nodes s t (by_points a) (by_points b) = points_rejected_once plan held nodes _ _ a b
stops_rejected_once plan held feed nodes s t (by_points a) (by_places near points scaled b) = absurd (points_not_both plan held nodes (points_of near) _ points a)
stops_rejected_once plan held feed nodes s t (by_places near points scaled a) (by_points b) = absurd (points_not_both plan held nodes (points_of near) _ points b)
stops_rejected_once plan held feed nodes s t (by_places near points scaled a) (by_places other points' scaled' b) =
    places-once held near other feed.stops nodes _ _
    (same-near plan near other (points_once plan held nodes (points_of near) (points_of other) points points') scaled scaled') a b
