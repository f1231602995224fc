use Rattle.std.proofs.Common.{◌≡◌, ◌∙◌, ◌<◌, ℕ, List, [], length, get_or, All, Vec, Global, sym, ap, subst, inl, inr, arith}
use Rattle.std.proofs.lemmas.Bool.{cases_eq}
use Rattle.std.proofs.lemmas.List.{length-set, get_or-set_same, get_or-set_other, get_or_default}
use Rattle.std.proofs.lemmas.List.Elements.{All-set}
use Rattle.trip_calls.specs.declared.kept.KeptCall.{KeptCall}
use Rattle.gtfs_feed.specs.Kept.{IsKeptList, IsKept, IsBareTrip}
use Rattle.gtfs_feed.specs.TripRules.{IsListOf, IsOutcome}
use Rattle.gtfs_feed.proofs.FinishLemmas.{kept-none}
use Rattle.gtfs_feed.proofs.TripFaults.{outcomes-more, lesser-none}
use Rattle.gtfs_feed.proofs.calls.finish_trips.Goals as goal

pub loop-place-preserved : goal.loop-place-preserved
loop-place-preserved c =
    let inv = c.loop-place.invariant in
    let place = c.loop-place.place in
    let read = c.index_mut-in-loop-place.ensures.value in
    let taken = c.replace-calls.ensures.value ∙ c.index_mut.ensures.value in
    let empty : c.replace-calls.new.dest.items ≡ [] = ap (λ (v : Vec KeptCall Global). v.items) c.replace-calls.ensures.after ∙ c.new.ensures.items in
    let inside : c.loop-place.place < length c.args.kept.items = omega (arith, inv.same, c.requires.each) in
    let one : (calls : ℕ → List KeptCall) → IsListOf c.args.kept.items calls → IsOutcome (calls c.loop-place.place) c.index_mut-in-loop-place.result.now c.finish_trip.new.trip c.in_ok-finish_trip.field-0 =
    λ calls list.
    let here : c.replace-calls.result.items ≡ calls c.loop-place.place =
    ap (λ (v : Vec KeptCall Global). v.items) (taken ∙ inv.untouched c.loop-place.place c.index_mut.result.now (omega arith)) ∙ list c.loop-place.place c.index_mut.result.now inside in
    rw here at c.in_ok-finish_trip.ensures.outcome in
    record {
      long = length-set c.loop-place.kept.items c.loop-place.place c.replace-calls.new.dest ∙ inv.long ∙ sym (length-set c.loop-place.trips.items c.loop-place.place c.finish_trip.new.trip);
      same = length-set c.loop-place.trips.items c.loop-place.place c.finish_trip.new.trip ∙ inv.same;
      kept = All-set (λ (v : Vec KeptCall Global). IsKeptList c.args.stops 50000000 v.items) c.loop-place.kept.items c.loop-place.place c.replace-calls.new.dest
          (kept-none c.args.stops 50000000 c.replace-calls.new.dest.items empty) inv.kept;
      rest = λ k d le. get_or-set_other c.loop-place.trips.items c.loop-place.place k c.finish_trip.new.trip d (omega arith) ∙ inv.rest k d (omega arith);
      untouched = λ k d le. get_or-set_other c.loop-place.kept.items c.loop-place.place k c.replace-calls.new.dest d (omega arith) ∙ inv.untouched k d (omega arith);
      outcomes = λ calls list. rw c.least-fault.ensures (outcomes-more calls c.loop-place.place c.loop-place.fault c.in_ok-finish_trip.field-0 _ _ (inv.outcomes calls list) (one calls list));
      trips = λ calls list none k d lt.
          let both = lesser-none c.loop-place.fault c.in_ok-finish_trip.field-0 (sym c.least-fault.ensures ∙ none) in
          elim (cases_eq k c.loop-place.place) [
            | inl here ↦ rw (here, get_or-set_same c.loop-place.trips.items c.loop-place.place c.finish_trip.new.trip d (omega (arith, inv.same)))
                (let old : c.index_mut-in-loop-place.result.now ≡ get_or c.args.trips.now.items c.loop-place.place d =
                read ∙ inv.rest c.loop-place.place c.index_mut-in-loop-place.result.now (omega arith)
                ∙ sym (get_or_default c.args.trips.now.items c.loop-place.place d c.index_mut-in-loop-place.result.now (omega (arith, inv.same))) in
                rw old at (rw both.1 at (one calls list)).0)
            | inr apart ↦ rw get_or-set_other (inv.trips calls list both.0 k d (omega arith))
          ];
      finished = λ services bare k d lt. elim (cases_eq k c.loop-place.place) [
        | inl here ↦ rw (here, get_or-set_same c.loop-place.trips.items c.loop-place.place c.finish_trip.new.trip d (omega (arith, inv.same)))
            (c.in_ok-finish_trip.ensures.kept c.args.stops services
            (subst (IsBareTrip services) (sym (read ∙ inv.rest c.loop-place.place c.index_mut-in-loop-place.result.now (omega arith)))
            (bare c.loop-place.place c.index_mut-in-loop-place.result.now (omega (arith, inv.same))))
            (let P : Vec KeptCall Global → Type 0 = λ v. All (IsKept c.args.stops) v.items in
            subst P (sym taken) (inv.kept c.loop-place.place c.index_mut.result.now (omega (arith, inv.long, inv.same))).each))
        | inr apart ↦ rw get_or-set_other (inv.finished services bare k d (omega arith))
      ];
    }

pub returns-clause-trips : goal.returns-clause-trips
returns-clause-trips c = λ calls list none k d lt. c.loop-place.invariant.trips calls list none k d (omega (arith, lt, c.loop-place.invariant.same))
