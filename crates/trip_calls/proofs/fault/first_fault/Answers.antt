use Rattle.std.proofs.Common.{◌≡◌, ◌∙◌, sym, refl, None, arith, get_or, false}
use Rattle.std.proofs.lemmas.Option.{slice_get-get_or}
use Rattle.trip_calls.specs.CallRules as spec
use Rattle.trip_calls.proofs.FaultLemmas.{previous-more, departure-more, cause-here, fault-more}
use Rattle.trip_calls.proofs.fault.first_fault.Goals as goal

pub loop-place-init : goal.loop-place-init
unfolding spec.departure_behind
loop-place-init c = record { previous = refl; earlier = refl; fault = λ i lt. absurd (omega arith) }

pub loop-place-preserved : goal.loop-place-preserved
loop-place-preserved c =
    let calls = c.args.calls.now in
    let i = c.loop-place.place in
    let here = slice_get-get_or calls i (record { sequence = 0; row = 0; stop = record { 0 = 0 }; times = None; board = false; alight = false }) c.loop-place-test.true in
    let call = get_or calls i (record { sequence = 0; row = 0; stop = record { 0 = 0 }; times = None; board = false; alight = false }) in
    let cause : spec.call_cause calls i ≡ c.cause_of-cause.result =
    cause-here calls i call here ∙ sym (rw (c.loop-place.invariant.previous, c.loop-place.invariant.earlier, c.is_end.ensures) at c.cause_of-cause.ensures) in
    record {
      previous = previous-more calls i call here;
      earlier = rw (c.loop-place.invariant.earlier) at c.departure_after-earlier.ensures ∙ sym (departure-more calls i call c.loop-place-test.true here);
      fault = rw c.with_cause-fault.ensures (fault-more calls i call c.loop-place.fault c.cause_of-cause.result c.loop-place.invariant.fault here cause);
    }
