use Rattle.std.proofs.Common.{◌≡◌, ◌∙◌, sym, ap, None, false, List, [], ◌∷◌, ◌++◌, length}
use Rattle.move_model.specs.declared.network.Call.{Call}
use Rattle.trip_calls.specs.Filled.{gap}
use Rattle.std.proofs.lemmas.Option.{slice_get-get_or}
use Rattle.std.proofs.lemmas.List.{length-map}
use Rattle.trip_calls.specs.declared.kept.KeptCall.{KeptCall}
use Rattle.trip_calls.proofs.ExactLemmas.{exact-none, exact-timed, exact-untimed, exact-all}
use Rattle.trip_calls.proofs.FillLemmas.{later, progress-none, progress-timed, progress-untimed, progress-all, none-of}
use Rattle.trip_calls.proofs.fill.fill_times.Goals as goal
use Rattle.trip_calls.proofs.fill.fill_times.Goals.{in-Some+in_ok-fill_gap+in_ok-push, in_default}

pub fill_gap-requires-clause-rises : goal.fill_gap-requires-clause-rises
fill_gap-requires-clause-rises c =
    let here = slice_get-get_or c.args.calls.now c.loop-place.place (record { sequence = 0; row = 0; stop = record { 0 = 0 }; times = None; board = false; alight = false }) c.loop-place-test.true in
    later c.args.calls.now c.loop-place.filled c.loop-place.place c.loop-place.departs _ c.in-Some.times c.loop-place.invariant.progress here (c.requires.hold c.loop-place.place c.loop-place-test.true) c.in-Some.is

pub loop-place-preserved : goal.loop-place-preserved
loop-place-preserved c =
    let here = slice_get-get_or c.args.calls.now c.loop-place.place (record { sequence = 0; row = 0; stop = record { 0 = 0 }; times = None; board = false; alight = false }) c.loop-place-test.true in
    let holds = c.requires.hold c.loop-place.place c.loop-place-test.true in
    elim c.match-call.branch [
      | in-Some+in_ok-fill_gap+in_ok-push w ↦
          let grows = w.in_ok-push.ensures.ok
          ∙ ap (λ (xs : List Call). xs ++ w.with_times.result ∷ []) w.in_ok-fill_gap.ensures.ok
          ∙ ap (λ (x : Call). (c.loop-place.filled ++ gap c.args.calls.now (length c.loop-place.filled) c.loop-place.place c.loop-place.departs w.in-Some.times.arr) ++ x ∷ []) w.with_times.ensures in
          rw (w.filled-is, w.departs-is) (record {
            progress = progress-timed c.args.calls.now c.loop-place.filled _ c.loop-place.place c.loop-place.departs _ w.in-Some.times
                c.loop-place.invariant.progress c.loop-place-test.true here holds w.in-Some.is (c.requires.in_time c.loop-place.place _ c.loop-place-test.true) grows;
            exact = exact-timed c.args.calls.now c.loop-place.filled _ c.loop-place.place c.loop-place.departs _ w.in-Some.times
                c.loop-place.invariant.exact c.loop-place-test.true here w.in-Some.is grows;
          })
      | in_default w ↦ rw (w.filled-is, w.departs-is) (record {
        progress = progress-untimed c.args.calls.now c.loop-place.filled c.loop-place.place c.loop-place.departs _ c.loop-place.invariant.progress c.loop-place-test.true here holds (none-of _ w.in_default.not-Some);
        exact = exact-untimed c.args.calls.now c.loop-place.filled c.loop-place.place c.loop-place.departs _ c.loop-place.invariant.exact here (none-of _ w.in_default.not-Some);
      })
    ]

pub loop-place-init : goal.loop-place-init
loop-place-init c = rw c.new-filled.ensures (record { progress = progress-none c.args.calls.now; exact = exact-none c.args.calls.now })

pub returns-clause-stops : goal.returns-clause-stops
returns-clause-stops c = progress-all c.args.calls.now c.loop-place.filled c.loop-place.place c.loop-place.departs c.loop-place.invariant.progress c.loop-place-test.false c.loop-place.auto.place-end c.requires.hold

pub returns-clause-filled : goal.returns-clause-filled
returns-clause-filled c =
    let long : length c.loop-place.filled ≡ length c.args.calls.now =
    sym (length-map c.loop-place.filled (λ (call : Call). call.stop)) ∙ ap length (returns-clause-stops c) ∙ length-map c.args.calls.now (λ (call : KeptCall). call.stop) in
    exact-all c.args.calls.now c.loop-place.filled c.loop-place.place c.loop-place.departs c.loop-place.invariant.exact long

pub returns-clause-timely : goal.returns-clause-timely
returns-clause-timely c = (c.loop-place.departs, c.loop-place.invariant.progress.timely)
