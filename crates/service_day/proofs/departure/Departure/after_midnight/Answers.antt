use Rattle.std.proofs.Common.{◌≡◌, ◌∙◌, sym, ap, ◌<◌, ◌≤◌, arith, length, rules, List, drop, [], ◌∷◌, true, false, length-drop}
use Rattle.std.specs.List.Sorted.{IsPartitionPoint}
use Rattle.std.specs.Prelude.{map}
use Rattle.std.proofs.lemmas.List.{take_rest, length-map}
use Rattle.std.proofs.lemmas.List.Sorted.{IsPartitionPoint-from_clause}
use Rattle.move_model.specs.declared.network.Call.{Call}
use Rattle.move_model.specs.declared.network.Trip.{Trip}
use Rattle.service_day.specs.DayTrips.{night_trip, midnight}
use Rattle.service_day.specs.Shift.{shifted_call}
use Rattle.service_day.specs.Departure.{trip_of}
use Rattle.service_day.proofs.NightLemmas.{trip_of-parts, is_early, night_calls, night-none, night-one, parted}
use Rattle.service_day.proofs.departure.Departure.after_midnight.Goals as goal

pub returns-then-calls-early-lt2 : goal.returns-then-calls-early-lt2
returns-then-calls-early-lt2 c =
    let d = c.args.self.now in
    let early = c.partition_point-early.result in
    let point : IsPartitionPoint (λ (call : Call). is_early d.shift call ≡ true) (λ (call : Call). is_early d.shift call ≡ false) d.calls.now early =
    IsPartitionPoint-from_clause (is_early d.shift) d.calls.now early c.partition_point-early.ensures.partitioned (parted d.shift d.calls.now c.requires.rising) (λ a r q k. search rules) in
    let calls = night_calls d.shift d.calls.now early c.requires.uncut point in
    let few : length (night_trip (trip_of d)).calls < 2 = omega (arith, ap length calls, length-map (drop early d.calls.now) (shifted_call (record d.shift { cut = midnight })), length-drop early d.calls.now) in
    sym (night-none (trip_of d) few)

pub returns : goal.returns
returns c =
    let d = c.args.self.now in
    let early = c.partition_point-early.result in
    let point : IsPartitionPoint (λ (call : Call). is_early d.shift call ≡ true) (λ (call : Call). is_early d.shift call ≡ false) d.calls.now early =
    IsPartitionPoint-from_clause (is_early d.shift) d.calls.now early c.partition_point-early.ensures.partitioned (parted d.shift d.calls.now c.requires.rising) (λ a r q k. search rules) in
    let calls = night_calls d.shift d.calls.now early c.requires.uncut point in
    let some : 2 ≤ length (night_trip (trip_of d)).calls = omega (arith, ap length calls, length-map (drop early d.calls.now) (shifted_call (record d.shift { cut = midnight })), length-drop early d.calls.now) in
    let of_calls : List Call → Trip = λ (calls : List Call). record { name = d.name.now; calls = calls } in
    ap (λ (trip : Trip). trip ∷ []) (trip_of-parts c.new.result _ _ _ c.new.ensures.name c.new.ensures.shift (c.new.ensures.calls ∙ take_rest d.calls.now early) ∙ ap of_calls (sym calls))
    ∙ sym (night-one (trip_of d) some)
