use Rattle.std.proofs.Common.{◌≡◌, ◌∙◌, ◌++◌, ◌∷◌, [], ◌+◌, ◌-◌, ◌<◌, ◌≤◌, List, sym, refl, ap, get_or, length, take, drop, arith}
use Rattle.std.proofs.lemmas.List.{append-nil, append_assoc, get_or_default}
use Rattle.move_model.specs.declared.network.Call.{Call}
use Rattle.trip_calls.specs.Filled.{passed, with_times, second_between}
use Rattle.trip_calls.specs.declared.kept.KeptCall.{KeptCall}
use Rattle.trip_calls.proofs.PassedLemmas.{no_call, passed-none, passed-more}
use Rattle.trip_calls.proofs.fill.fill_gap.Goals as goal

pub loop-at-init : goal.loop-at-init
loop-at-init c =
    let z : c.len-begun.result - c.len-begun.result ≡ 0 = omega arith in
    rw (z, passed-none) (sym (append-nil c.args.filled.now))

pub loop-at-preserved : goal.loop-at-preserved
loop-at-preserved c =
    let calls = c.args.calls.now in
    let call : KeptCall = get_or c.args.calls.now c.loop-at.at no_call in
    let near : c.len-begun.result ≤ c.loop-at.at = c.loop-at.auto.at in
    let within : c.loop-at.at < length c.args.calls.now = omega (arith, c.requires.within) in
    let more = passed-more c.args.calls.now c.len-begun.result c.loop-at.at c.args.departs c.args.arrives (c.args.place + 1 - c.len-begun.result) (get_or c.args.calls.now c.loop-at.at no_call) near within
    (get_or_default c.args.calls.now c.loop-at.at no_call (get_or c.args.calls.now c.loop-at.at no_call) within) in
    let item : c.with_times.result ≡ with_times (get_or c.args.calls.now c.loop-at.at no_call)
    (second_between c.args.departs c.args.arrives (c.loop-at.at + 1 - c.len-begun.result) (c.args.place + 1 - c.len-begun.result))
    (second_between c.args.departs c.args.arrives (c.loop-at.at + 1 - c.len-begun.result) (c.args.place + 1 - c.len-begun.result)) =
    c.with_times.ensures ∙ rw c.between-second.ensures refl in
    c.in_ok-push.ensures.ok
    ∙ ap (λ (xs : List Call). xs ++ c.with_times.result ∷ []) c.loop-at.invariant
    ∙ append_assoc c.args.filled.now _ (c.with_times.result ∷ [])
    ∙ ap (λ (rest : List Call). c.args.filled.now ++ rest)
    (ap (λ (x : Call). passed c.args.departs c.args.arrives 1 (c.args.place + 1 - c.len-begun.result) (take (c.loop-at.at - c.len-begun.result) (drop c.len-begun.result c.args.calls.now)) ++ x ∷ []) item ∙ sym more)
