-- Journeys by least sums arrive at seconds that 64 bits hold, so they can be printed.
use Rattle.std.proofs.Common.{◌≡◌, ◌∙◌, ℕ, ◌≤◌, List, [], map, sym, ap, subst, inr, arith, Option, Some, None}
use Rattle.std.specs.Prelude.{All, Contains, IfSome}
use Rattle.std.proofs.lemmas.Option.{slice_get_within, get_or_from_slice_get}
use Rattle.std.proofs.lemmas.List.Elements.{All-get_or, All-head, All-tail, All-weaker, All-contains}
use Rattle.move_model.specs.declared.network.NodeNo.{NodeNo}
use Rattle.move_model.specs.declared.network.Trip.{Trip}
use Rattle.move_model.specs.declared.network.Call.{Call}
use Rattle.move_model.specs.declared.journey.Ride.{Ride}
use Rattle.move_model.specs.declared.journey.Finding.{Finding}
use Rattle.move_model.specs.declared.journey.Span.{Span}
use Rattle.move_model.specs.declared.journey.SpanFinding.{SpanFinding}
use Rattle.move_model.specs.declared.query.Place.{Place}
use Rattle.move_model.specs.Streets.{IsWalk}
use Rattle.move_model.specs.Network.{streets}
use Rattle.move_model.specs.Check.{Stays}
use Rattle.move_model.specs.Journey.{IsRide, Travels}
use Rattle.move_model.specs.Journey.Travels.{walks, rides}
use Rattle.move_model.specs.Range.{IsSpanWithin, without_rides}
use Rattle.move_model.specs.Found.{span_of}
use Rattle.compiled_laws.proofs.Lists.{Contains-map, All-from_contains, image_of}
use Rattle.pareto_laws.proofs.Walks.{walk_first, walk_same, IsWalk-begins, IsWalk-ends}
use Rattle.walk_hierarchy.specs.Hierarchy.{IsNode}
use Rattle.journey_build.specs.Built.{IsLeastWay}
use Rattle.journey_print.specs.Legs.{IsPrintable}
use Rattle.range_print.specs.declared.answer.RangeAnswer.{RangeAnswer}
use Rattle.range_print.specs.Rows.{ArePrintable}
use Rattle.network_file.specs.declared.compiled.Compiled.{Compiled}
use Rattle.network_file.specs.Compiled.{FitTogether}
use Rattle.network_file.specs.Answers.{Sums, IsMade, IsListedPoint, IsListedSpans, outlines}
use Rattle.network_answers.proofs.AskLaws.{vertex_node, foot_few}

module _ (c : Compiled) (fits : FitTogether c) where
  abbrev Way : List NodeNo → Type 0
  Way walk = IsLeastWay (streets c.network) c.hierarchy walk

  way_few : {p q : NodeNo} {walk : List NodeNo} {m : ℕ} → IsWalk (streets c.network) p walk q m → Way walk → m ≤ 9000000000000000000
  way_few {p} {q} {walk} {m} is way =
      let none : NodeNo = record { 0 = 0 } in
      let from : way.from ≡ p = sym (walk_first none way.way.walks).1 ∙ (walk_first none is).1 in
      let at_p : IsWalk (streets c.network) p walk way.to way.way.seconds =
      subst (λ (v : NodeNo). IsWalk (streets c.network) v walk way.to way.way.seconds) from way.way.walks in
      let same : way.way.seconds ≡ m = walk_same at_p is in
      let begins : IsNode c.hierarchy way.from = vertex_node c fits way.from (IsWalk-begins (streets c.network) fits.rules.network.streets_join way.way.walks) in
      let ends : IsNode c.hierarchy way.to = vertex_node c fits way.to (IsWalk-ends (streets c.network) fits.rules.network.streets_join way.way.walks) in
      omega (arith, same, foot_few c fits way.from way.to begins ends way.way.seconds way.way.least.attained)

  arr_few : (ride : Ride) (on off : Call) → IsRide c.network ride on off → off.arr ≤ 3599999
  arr_few ride on off is =
      let t : Trip = is.leaves.0 in
      let at_trip = slice_get_within c.network.trips ride.trip.0 t is.leaves.1 in
      let trip_ok : All Stays t.calls =
      subst (λ (t : Trip). All Stays t.calls) (get_or_from_slice_get c.network.trips ride.trip.0 t t is.leaves.1)
      (All-get_or (λ (t : Trip). All Stays t.calls) c.network.trips ride.trip.0 t at_trip fits.rules.within_day) in
      let at_call = slice_get_within t.calls ride.alight off is.leaves.2 in
      let stays : Stays off =
      subst Stays (get_or_from_slice_get t.calls ride.alight off off is.leaves.2) (All-get_or Stays t.calls ride.alight off at_call trip_ok) in
      omega (arith, stays.0, stays.1)

  arrives_few : {p t : NodeNo} {r a : ℕ} {ws : List (List NodeNo)} {rs : List Ride} → Travels c.network p r ws rs t a → All Way ws → r ≤ 4294967295
      → a ≤ 9000000004294967295
  arrives_few (walks {walk = walk} is) all few = omega (arith, way_few is (All-head Way walk [] all), few)
  arrives_few (rides {walk = walk} {walks = ws} {ride = ride} {on = on} {off = off} is is_ride in_time rest) all few =
      arrives_few rest (All-tail Way walk ws all) (omega (arith, arr_few ride on off is_ride))

  made_printable : (sums : Sums) (s t : NodeNo) (d : ℕ) (finding : Finding) → d ≤ 4294967295 → IsMade c sums s d t finding → IsPrintable c.network finding
  made_printable sums s t d finding few made =
      let at_d : Travels c.network s d finding.journey.walks finding.journey.rides t made.built.arrive =
      subst (λ (e : ℕ). Travels c.network s e finding.journey.walks finding.journey.rides t made.built.arrive) made.built.departs made.built.leads in
      record {
        from = s;
        to = t;
        arrive = made.built.arrive;
        leads = made.built.leads;
        within = inr (omega (arith, arrives_few at_d made.built.ways few));
      }

  pub printable : (s t : NodeNo) (d limit : ℕ) (found : List Finding) → d ≤ 4294967295 → IsListedPoint c s d t limit found → All (IsPrintable c.network) found
  printable s t d limit found few is =
      All-weaker (IsMade c is.sums s d t) (IsPrintable c.network) (λ finding made. made_printable is.sums s t d finding few made) found is.made

  foot_printable : (sums : Sums) (s t : NodeNo) (first : ℕ) (foot : Option Finding) → first ≤ 4294967295 → IfSome foot (IsMade c sums s first t)
      → IfSome foot (IsPrintable c.network)
  foot_printable sums s t first None few made = made
  foot_printable sums s t first (Some finding) few made = made_printable sums s t first finding few made

  -- a span ends no later than its window
  ends_within : (s t : NodeNo) (limit first last : ℕ) (foot : Option Finding) (spans : List SpanFinding) → IsListedSpans c s t limit first last foot spans
      → (found : SpanFinding) → Contains spans found → found.last ≤ last
  ends_within s t limit first last foot spans is found has =
      let listed : Contains (outlines is.profile.spans) (without_rides (span_of found)) =
      All-contains (Contains (outlines is.profile.spans)) (outlines (map span_of spans)) (without_rides (span_of found)) is.best
      (Contains-map without_rides (map span_of spans) (span_of found) (Contains-map span_of spans found has)) in
      let there = image_of without_rides is.profile.spans (without_rides (span_of found)) listed in
      let within : IsSpanWithin first last there.item = All-contains (IsSpanWithin first last) is.profile.spans there.item is.range.spans.within there.has in
      omega (arith, ap (λ (span : Span). span.last) there.is, within.ends)

  pub range_printable : (from to : Place) (limit first last : ℕ) (answer : RangeAnswer) → first ≤ 4294967295 → last ≤ 4294967295
      → IsListedSpans c from.node to.node limit first last answer.foot answer.spans → ArePrintable c.network answer
  range_printable from to limit first last answer few small is = record {
    foot = foot_printable is.sums from.node to.node first answer.foot few is.foot_made;
    spans = All-from_contains (λ found. IsPrintable c.network found.finding) answer.spans
        (λ found has.
        let last_few : found.last ≤ last = ends_within from.node to.node limit first last answer.foot answer.spans is found has in
        made_printable is.sums from.node to.node found.last found.finding (omega (arith, last_few, small))
        (All-contains (λ found. IsMade c is.sums from.node found.last to.node found.finding) answer.spans found is.made has));
  }
