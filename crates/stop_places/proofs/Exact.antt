-- The stops are not both placed and refused, and there is one refusal.
use Rattle.std.proofs.Common.{◌≡◌, ◌∙◌, ◌<◌, ◌≤◌, ℕ, ℤ, List, Option, Some, None, refl, sym, ap, arith, inl, inr}
use Rattle.std.specs.Prelude.{slice_get}
use Rattle.std.proofs.lemmas.Bool.{cases_lt}
use Rattle.std.proofs.lemmas.Option.{slice_get_within}
use Rattle.gtfs_feed.specs.declared.feed.FeedStop.{FeedStop}
use Rattle.move_model.specs.declared.network.NodeNo.{NodeNo}
use Rattle.move_model.specs.declared.network.Stop.{Stop}
use Rattle.move_model.specs.declared.refusal.Cause.{Cause}
use Rattle.move_model.specs.declared.refusal.Cause.TheVariants as cause
use Rattle.move_model.specs.declared.refusal.FileKind.TheVariants as file
use Rattle.move_model.specs.declared.refusal.Refusal.{Refusal}
use Rattle.refusals.proofs.RefusalLemmas.{file_not_both, one_file_refusal}
use Rattle.stop_places.specs.declared.near.Near.{Near}
use Rattle.stop_places.specs.Places.{IsNearPlace, IsPlaceBy, ArePlaced, IsNoPlaceRefusal, IsPlaceRefusal}
use Rattle.stop_places.specs.Table.{file_rules, IsTable, IsTableRefusal, TableAccepted, TableRefused, table_vertex}
use Rattle.stop_places.proofs.PlaceLemmas.{there}

near-one : (near : Option Near) (lat lon : Option ℤ) (v : NodeNo) → IsNearPlace near lat lon None → IsNearPlace near lat lon (Some v) → ⊥
near-one None lat lon v a b = cc b
near-one (Some n) None lon v a b = cc b
near-one (Some n) (Some x) None v a b = cc b
near-one (Some n) (Some x) (Some y) v a b = a

place-one : (o : Option NodeNo) (near : Option Near) (stop : FeedStop) (v : NodeNo) → IsPlaceBy o near stop None → IsPlaceBy o near stop (Some v) → ⊥
place-one None near stop v a b = near-one near stop.lat stop.lon v a b
place-one (Some w) near stop v a b = cc a

table-not-both : (stops : List FeedStop) (nodes : ℕ) (bytes : Option (List ℕ)) (row : ℕ) (cause : Cause) → TableAccepted stops nodes bytes → TableRefused stops nodes bytes row cause → ⊥
unfolding IsTable IsTableRefusal
table-not-both stops nodes None row cause a r = r
table-not-both stops nodes (Some bytes) row cause a r = file_not_both file_rules bytes _ _ _ row cause a r

one-table : (stops : List FeedStop) (nodes : ℕ) (bytes : Option (List ℕ)) (row other : ℕ) (cause another : Cause) → TableRefused stops nodes bytes row cause → TableRefused stops nodes bytes other another
    → (row ≡ other) × (cause ≡ another)
unfolding IsTableRefusal
one-table stops nodes None row other cause another r s = absurd r
one-table stops nodes (Some bytes) row other cause another r s = one_file_refusal file_rules bytes _ _ _ row other cause another r s

placed-not-refused : (vertex_of : List ℕ → Option NodeNo) (near : Option Near) (stops : List FeedStop) (placed : List Stop) (r : Refusal) → ArePlaced vertex_of near stops placed → IsNoPlaceRefusal vertex_of near stops r → ⊥
placed-not-refused vertex_of near stops placed r p n =
    let at = there placed n.place (omega (arith, slice_get_within stops n.place n.stop n.there, p.as_many)) in
    place-one (vertex_of n.stop.name) near n.stop at.0.node n.none (p.each n.place n.stop at.0 n.there at.1).stands

not-earlier : (vertex_of : List ℕ → Option NodeNo) (near : Option Near) (stops : List FeedStop) (r s : Refusal) → (n : IsNoPlaceRefusal vertex_of near stops r) → (m : IsNoPlaceRefusal vertex_of near stops s) → n.place < m.place → ⊥
not-earlier vertex_of near stops r s n m lt =
    let v = m.earlier n.place n.stop lt n.there in
    place-one (vertex_of n.stop.name) near n.stop v.0 n.none v.1

same-stop : (o : Option FeedStop) (x y : FeedStop) → o ≡ Some x → o ≡ Some y → x ≡ y
same-stop o x y a b = let e : Some x ≡ Some y = sym a ∙ b in cc e

abbrev no_place : FeedStop → Refusal
no_place stop = record { file = file.Stops; row = stop.row; cause = cause.NoPlace }

one-stop : (vertex_of : List ℕ → Option NodeNo) (near : Option Near) (stops : List FeedStop) (r s : Refusal) → IsNoPlaceRefusal vertex_of near stops r → IsNoPlaceRefusal vertex_of near stops s → r ≡ s
one-stop vertex_of near stops r s n m =
    let no_less : m.place ≤ n.place = elim (cases_lt n.place m.place) [ inl lt ↦ absurd (not-earlier vertex_of near stops r s n m lt) | inr ge ↦ ge ] in
    let no_more : n.place ≤ m.place = elim (cases_lt m.place n.place) [ inl lt ↦ absurd (not-earlier vertex_of near stops s r m n lt) | inr ge ↦ ge ] in
    let place : n.place ≡ m.place = omega arith in
    let stop : n.stop ≡ m.stop = same-stop (slice_get stops m.place) n.stop m.stop (rw (← place) n.there) m.there in
    n.of_row ∙ ap no_place stop ∙ sym m.of_row

-- where the stops are placed, nothing is refused
pub not_both : (stops : List FeedStop) (nodes : ℕ) (bytes : Option (List ℕ)) (near : Option Near) (placed : List Stop) (r : Refusal) → TableAccepted stops nodes bytes
    → ArePlaced (table_vertex bytes) near stops placed → IsPlaceRefusal stops nodes bytes near r → ⊥
not_both stops nodes bytes near placed r a p (inl t) = table-not-both stops nodes bytes r.row r.cause a t.1
not_both stops nodes bytes near placed r a p (inr n) = placed-not-refused (table_vertex bytes) near stops placed r p n.1

-- there is one refusal
pub one_refusal : (stops : List FeedStop) (nodes : ℕ) (bytes : Option (List ℕ)) (near : Option Near) (r s : Refusal) → IsPlaceRefusal stops nodes bytes near r → IsPlaceRefusal stops nodes bytes near s → r ≡ s
one_refusal stops nodes bytes near r s (inl a) (inl b) =
    let same = one-table stops nodes bytes r.row s.row r.cause s.cause a.1 b.1 in
    rw (a.0, b.0, same.0, same.1) refl
one_refusal stops nodes bytes near r s (inl a) (inr b) = absurd (table-not-both stops nodes bytes r.row r.cause b.0 a.1)
one_refusal stops nodes bytes near r s (inr a) (inl b) = absurd (table-not-both stops nodes bytes s.row s.cause a.0 b.1)
one_refusal stops nodes bytes near r s (inr a) (inr b) = one-stop (table_vertex bytes) near stops r s a.1 b.1
