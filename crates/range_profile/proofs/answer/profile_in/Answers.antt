use Rattle.std.proofs.Common.{ℕ, ◌≤◌, List, length, sym, subst}
use Rattle.std.specs.Prelude.{All}
use Rattle.std.specs.declared.alloc.Global.{Global}
use Rattle.std.specs.declared.vec.Vec.{Vec}
use Rattle.move_model.specs.declared.network.StopNo.{StopNo}
use Rattle.move_model.specs.declared.journey.Shortcut.{Shortcut}
use Rattle.move_model.specs.Range.{IsRangeOf, IsListedBest, CarriesRides}
use Rattle.range_profile.specs.Seeds.{AreWithin}
use Rattle.range_profile.specs.Window.{SeedsWindow, asked}
use Rattle.range_profile.proofs.ProfileLemmas.{departures_same, opened_least, ok_still}
use Rattle.range_profile.proofs.answer.profile_in.Goals as goal

pub search_window-requires-clause-at_stops : goal.search_window-requires-clause-at_stops
search_window-requires-clause-at_stops g c =
    subst (λ (v : List (Vec StopNo Global)). AreWithin (length c.args.last_row.now) v) (sym c.as_slice-stops.ensures.value)
    (subst (λ n. AreWithin n c.in_ok-seeds.seeds.stops.items) (sym c.requires.last_row) c.in_ok-seeds.ensures.within)

pub returns-in_err-search_window-clause-counted : goal.returns-in_err-search_window-clause-counted
returns-in_err-search_window-clause-counted g c n ds trips_are buffer_is are =
    opened_least (length c.args.table.now.routes) c.args.opens.now c.search_window.new.opens (length c.as_slice-departures.result.now) (length ds)
    (subst (λ (v : List ℕ). length v ≤ length ds) (sym c.as_slice-departures.ensures)
    (departures_same n c.args.first_row.now c.args.first c.args.last c.in_ok-seeds.seeds.departures ds (c.in_ok-seeds.ensures.exact n trips_are buffer_is) are))
    c.search_window.ensures.counted

pub returns-clause-counted : goal.returns-clause-counted
returns-clause-counted g c n ds trips_are buffer_is are =
    opened_least (length c.args.table.now.routes) c.args.opens.now c.search_window.new.opens (length c.as_slice-departures.result.now) (length ds)
    (subst (λ (v : List ℕ). length v ≤ length ds) (sym c.as_slice-departures.ensures)
    (departures_same n c.args.first_row.now c.args.first c.args.last c.in_ok-seeds.seeds.departures ds (c.in_ok-seeds.ensures.exact n trips_are buffer_is) are))
    c.search_window.ensures.counted

pub returns-clause-range : goal.returns-clause-range
returns-clause-range g c =
    let first_row = c.args.first_row.now in
    let last_row = c.args.last_row.now in
    let limit = length c.args.levels.now in
    ok_still c.finish_spans.result _ _ c.finish_spans.ensures.range (λ spans given n is_table trips_are.
    let window : SeedsWindow c.args.table.now first_row c.args.first c.args.last c.as_slice-stops.result.now c.as_slice-departures.result.now =
    subst (λ (v : List (Vec StopNo Global)). SeedsWindow c.args.table.now first_row c.args.first c.args.last v c.as_slice-departures.result.now) (sym c.as_slice-stops.ensures.value)
    (subst (λ (v : List ℕ). SeedsWindow c.args.table.now first_row c.args.first c.args.last c.in_ok-seeds.seeds.stops.items v) (sym c.as_slice-departures.ensures)
    (c.in_ok-seeds.ensures.window n is_table trips_are)) in
    subst (λ (v : List Shortcut). IsRangeOf (λ d pair. IsListedBest n first_row last_row v c.args.foot d limit pair) c.args.first c.args.last c.args.foot spans) c.as_slice-list.ensures
    (given (asked n first_row last_row c.as_slice-list.result.now c.args.foot limit) c.args.last
    (c.in_ok-search_window.ensures.stands n is_table window) c.in_ok-search_window.ensures.later))

pub returns-clause-rides : goal.returns-clause-rides
returns-clause-rides g c =
    let first_row = c.args.first_row.now in
    let last_row = c.args.last_row.now in
    let limit = length c.args.levels.now in
    ok_still c.finish_spans.result _ _ c.finish_spans.ensures.rides (λ spans given n is_table trips_are.
    let window : SeedsWindow c.args.table.now first_row c.args.first c.args.last c.as_slice-stops.result.now c.as_slice-departures.result.now =
    subst (λ (v : List (Vec StopNo Global)). SeedsWindow c.args.table.now first_row c.args.first c.args.last v c.as_slice-departures.result.now) (sym c.as_slice-stops.ensures.value)
    (subst (λ (v : List ℕ). SeedsWindow c.args.table.now first_row c.args.first c.args.last c.in_ok-seeds.seeds.stops.items v) (sym c.as_slice-departures.ensures)
    (c.in_ok-seeds.ensures.window n is_table trips_are)) in
    subst (λ (v : List Shortcut). All (CarriesRides n first_row last_row v) spans) c.as_slice-list.ensures
    (given (asked n first_row last_row c.as_slice-list.result.now c.args.foot limit) c.args.last
    (c.in_ok-search_window.ensures.stands n is_table window) c.in_ok-search_window.ensures.later))
