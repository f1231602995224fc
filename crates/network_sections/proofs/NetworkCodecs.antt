-- The forms of the sections of a network, and why what keeps the rules has a form.
use Rattle.std.proofs.Common.{◌≡◌, ◌∙◌, ℕ, ◌-◌, ◌^◌, ◌<◌, ◌≤◌, List, [], ◌++◌, length, get_or, All, Some, None, refl, sym, ap, subst, arith}
use Rattle.std.specs.Prelude.{sum_by}
use Rattle.std.specs.List.{AllByRecursion}
use Rattle.std.proofs.lemmas.List.Elements.{recursion_from_All}
use Rattle.move_model.specs.declared.network.Network.{Network}
use Rattle.move_model.specs.declared.network.Arc.{Arc}
use Rattle.move_model.specs.declared.network.Stop.{Stop}
use Rattle.move_model.specs.declared.network.Call.{Call}
use Rattle.move_model.specs.declared.network.Trip.{Trip}
use Rattle.network_bytes.specs.Bytes.{word, short_list}
use Rattle.network_bytes.specs.declared.stop.ReadStop.{ReadStop}
use Rattle.network_bytes.specs.declared.stop.ReadStop.TheVariants as stop
use Rattle.network_bytes.specs.Front.{word_at, both, counted, Fails}
use Rattle.network_bytes.specs.Forms.{arc_form, arc_at, stop_form, stop_at, trip_form, trip_at}
use Rattle.network_bytes.specs.Fits.{ArcFits, StopFits, CallFits, TripFits}
use Rattle.network_bytes.proofs.Codec.{IsBytes, Takes, IsCodec, bind_some, some_is, word_codec, both_codec, counted_codec}
use Rattle.network_bytes.proofs.EntryCodecs.{arc_codec, stop_codec, trip_codec}
use Rattle.network_codec.specs.declared.version.Version.{Version}
use Rattle.network_codec.specs.declared.version.Version.TheVariants as version
use Rattle.network_codec.specs.Form.{buffer_form, streets_form}
use Rattle.network_codec.specs.Rules.{streets_alone, AreStreets, AreStops, AreTrips}
use Rattle.network_sections.specs.Network.{with_stops, with_trips, buffer_at, streets_of, streets_at}
use Rattle.network_sections.specs.Front.{HasNoneInFront}
use Rattle.network_codec.proofs.WriteLemmas.{few_each_at}

abbrev BufferFits : Version → ℕ → Type 0
BufferFits version.One seconds = seconds ≡ 0
BufferFits version.Two seconds = seconds < 2 ^ 32

buffer_codec : (v : Version) → IsCodec (buffer_form v) (BufferFits v) (buffer_at v)
buffer_codec version.One = record {
  takes = λ bytes x fits e. subst (λ (y : ℕ × List ℕ). Takes bytes [] y.1 × (y.0 ≡ 0)) (some_is (0, bytes) x e) (record { parts = refl; rest_fits = fits }, refl);
  again = λ x rest fits. ap (λ (n : ℕ). Some (n, rest)) (sym fits);
}
buffer_codec version.Two = word_codec

abbrev ArcsFit : List Arc → Type 0
ArcsFit arcs = (length arcs < 2 ^ 32) × AllByRecursion ArcFits arcs

abbrev StreetsFit : Version → ℕ × (ℕ × List Arc) → Type 0
StreetsFit v x = BufferFits v x.0 × ((x.1.0 < 2 ^ 32) × ArcsFit x.1.1)

parts_codec : (v : Version) → IsCodec (λ (x : ℕ × (ℕ × List Arc)). buffer_form v x.0 ++ (word x.1.0 ++ short_list arc_form x.1.1)) (StreetsFit v) (both (buffer_at v) (both word_at (counted word_at arc_at)))
parts_codec v = both_codec (buffer_codec v) (both_codec word_codec (counted_codec word_codec arc_codec))

pub streets_take : (v : Version) (bytes : List ℕ) (n : Network) (rest : List ℕ) → IsBytes bytes → streets_at v bytes ≡ Some (n, rest) → (bytes ≡ streets_form v n ++ rest) × (n ≡ streets_alone n)
unfolding streets_at
streets_take v bytes n rest fits e =
    let a = bind_some (both (buffer_at v) (both word_at (counted word_at arc_at)) bytes) (λ x. Some (streets_of x.0, x.1)) (n, rest) e in
    let t = (parts_codec v).takes bytes a.0 fits a.1 in
    let made_of : Network × List ℕ = (streets_of a.0.0, a.0.1) in
    subst (λ (y : Network × List ℕ). (bytes ≡ streets_form v y.0 ++ y.1) × (y.0 ≡ streets_alone y.0)) (some_is made_of (n, rest) a.2) (t.0.parts, refl)

buffer_fits : (v : Version) (n : Network) → AreStreets v n → BufferFits v n.buffer
buffer_fits version.One n are = are.buffer
buffer_fits version.Two n are = omega (arith, are.buffer)

pub streets_again : (v : Version) (n : Network) (rest : List ℕ) → AreStreets v n → streets_at v (streets_form v n ++ rest) ≡ Some (streets_alone n, rest)
unfolding streets_at
streets_again v n rest are =
    let arcs : ArcsFit n.arcs = (
      omega (arith, are.few),
      recursion_from_All ArcFits n.arcs (λ k d lt.
          let ends = are.keep.network.streets_join.arcs_join k d lt in
          (omega (arith, ends.0.to_nodes, are.keep.has_nodes.1), (omega (arith, ends.1.to_nodes, are.keep.has_nodes.1), omega (arith, are.keep.arcs_short k d lt)))),
    ) in
    rw ((parts_codec v).again (n.buffer, (n.nodes, n.arcs)) rest (buffer_fits v n are, (omega (arith, are.keep.has_nodes.1), arcs))) refl

abbrev pub StopsFit : List Stop → Type 0
StopsFit stops = (length stops < 2 ^ 32) × AllByRecursion StopFits stops

pub stops_codec : IsCodec (short_list stop_form) StopsFit (counted word_at stop_at)
stops_codec = counted_codec word_codec stop_codec

pub stops_fit : (n : Network) (stops : List Stop) → AreStops (with_stops n stops) → StopsFit stops
stops_fit n stops are = (
  omega (arith, are.few),
  recursion_from_All StopFits stops (λ k d lt.
      let at = are.keep.network.stops_stand k d lt in
      (omega (arith, at.to_nodes, are.keep.has_nodes.1), omega (arith, (are.named k d lt).few))),
)

abbrev pub TripsFit : List Trip → Type 0
TripsFit trips = (length trips < 2 ^ 32) × AllByRecursion TripFits trips

pub trips_codec : IsCodec (short_list trip_form) TripsFit (counted word_at trip_at)
trips_codec = counted_codec word_codec trip_codec

call_fits : (stops : ℕ) (call : Call) → stops ≤ 200000 → call.stop.0 < stops → call.arr ≤ call.dep → call.dep ≤ 3599999 → CallFits call
call_fits stops call few at stays last = (omega arith, (omega arith, (omega arith, tt)))

pub trips_fit : (n : Network) (trips : List Trip) → length n.stops ≤ 200000 → AreTrips (with_trips n trips) → TripsFit trips
trips_fit n trips few are = (
  omega (arith, are.few),
  recursion_from_All TripFits trips (λ k d lt.
      let goes = are.keep.network.trips_go k d lt in
      let day = are.keep.within_day k d lt in (
        omega (arith, (are.named k d lt).few),
        (
          omega (arith, few_each_at trips 20000000 are.few_calls k d lt),
          recursion_from_All CallFits _ (λ j e below. call_fits (length n.stops) (get_or (get_or trips k d).calls j e) few (goes.at_stops j e below) (day j e below).0 (day j e below).1),
        ),
      )),
)

pub calls_few : (trips : List Trip) → sum_by (λ trip. length trip.calls) trips ≤ 20000000 → All (λ trip. length trip.calls < 2 ^ 32 - 1) trips
calls_few trips few = λ k d lt. omega (arith, few_each_at trips 20000000 few k d lt)

-- streets in front of bytes

alone_keeps : (v : Version) (n : Network) → AreStreets v n → AreStreets v (streets_alone n)
alone_keeps v n are = record { buffer = are.buffer; few = are.few; keep = are.keep }

nothing_at : {X : Type 0} (x : X × List ℕ) → None ≡ Some x → ⊥
nothing_at x e = cc

pub streets_broken : (v : Version) (bytes : List ℕ) (n : Network) (rest : List ℕ) → streets_at v bytes ≡ Some (n, rest) → (AreStreets v n → ⊥) → HasNoneInFront (streets_form v) (AreStreets v) bytes
streets_broken v bytes n rest e not m after are parts =
    let again : streets_at v bytes ≡ Some (streets_alone m, after) = ap (streets_at v) parts ∙ streets_again v m after are in
    let same : n ≡ streets_alone m = ap (λ (p : Network × List ℕ). p.0) (some_is (n, rest) (streets_alone m, after) (sym e ∙ again)) in
    not (subst (AreStreets v) (sym same) (alone_keeps v m are))

pub streets_cut_off : (v : Version) (bytes : List ℕ) (e : ReadStop) → Fails e (streets_at v bytes) → e ≡ stop.Broken → HasNoneInFront (streets_form v) (AreStreets v) bytes
streets_cut_off v bytes stop.NoMemory failed is = absurd (cc)
streets_cut_off v bytes stop.Broken failed is = λ m after are parts. nothing_at (streets_alone m, after) (sym failed ∙ (ap (streets_at v) parts ∙ streets_again v m after are))
