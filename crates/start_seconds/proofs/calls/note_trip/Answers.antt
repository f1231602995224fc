use Rattle.std.proofs.Common.{◌≡◌, ℕ, ◌+◌, ◌-◌, ◌<◌, false, length, slice_get, slice_index_or, Some, ap, ◌∙◌, subst, arith}
use Rattle.std.proofs.lemmas.Option.{slice_get-get_or}
use Rattle.move_model.specs.declared.network.Call.{Call}
use Rattle.start_seconds.specs.Noted.{IsNoting}
use Rattle.start_seconds.proofs.NoteLemmas.{noting_more, noting_next}
use Rattle.start_seconds.proofs.calls.note_trip.Goals as goal

pub loop-k-preserved : goal.loop-k-preserved
loop-k-preserved c = λ t has first.
    let none : Call = record { stop = record { 0 = 0 }; arr = 0; dep = 0; board = false; alight = false } in
    let calls = c.args.calls.now in
    let k = c.loop-k.k - 1 in
    let low : c.loop-k.k - 1 < length c.args.calls.now = omega (arith, c.loop-k-test.true, c.loop-k.auto.k) in
    let e : c.loop-k.k - 1 + 1 ≡ c.loop-k.k = omega (arith, c.loop-k.auto.k) in
    let call : Call = slice_index_or calls (c.loop-k.k - 1) none in
    let next : Call = slice_index_or calls c.loop-k.k none in
    let behind : slice_get c.args.calls.now (c.loop-k.k - 1 + 1) ≡ Some next = ap (λ (i : ℕ). slice_get c.args.calls.now i) e ∙ slice_get-get_or calls c.loop-k.k none c.loop-k-test.true in
    let exists : call.stop.0 < length c.args.network.now.stops = omega (arith, c.requires.at_stops k none low, c.requires.places.one_each) in
    let more = noting_more c.args.network.now c.args.rows.now t k calls has call next (slice_get-get_or calls k none low) behind exists c.loop-k.starts.items c.note.new.starts.items
    c.in_ok-note.ensures (c.loop-k.invariant t has first) in
    let same : c.loop-k.k - 1 + 1 ≡ c.loop-k.k + 1 - 1 = omega (arith, c.loop-k.auto.k) in
    subst (λ (i : ℕ). IsNoting c.args.network.now c.args.rows.now t i c.note.new.starts.items) same more

pub returns : goal.returns
returns c = λ t has first.
    noting_next c.args.network.now c.args.rows.now t (c.loop-k.k - 1) c.args.calls.now c.loop-k.starts.items has (omega (arith, c.loop-k-test.false, c.loop-k.auto.k)) (c.loop-k.invariant t has first)
