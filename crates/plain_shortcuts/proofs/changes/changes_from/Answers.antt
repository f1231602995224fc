use Rattle.std.proofs.Common.{slice_index_or, arith}
use Rattle.std.proofs.lemmas.Option.{slice_get-get_or}
use Rattle.std.proofs.lemmas.List.Elements.{Contains-get_or}
use Rattle.plain_shortcuts.specs.declared.rides.RideCalls.{RideCalls}
use Rattle.plain_shortcuts.proofs.Lists.{comes_more, comes_all}
use Rattle.plain_shortcuts.proofs.RideLemmas.{no_ride}
use Rattle.plain_shortcuts.proofs.ChangeLemmas.{below_change, below_changes}
use Rattle.plain_shortcuts.proofs.changes.changes_from.Goals as goal

pub note_changes-requires-clause-first : goal.note_changes-requires-clause-first
note_changes-requires-clause-first c = (c.requires.rides (slice_index_or c.args.rides.now c.loop-k.k no_ride)).0 (Contains-get_or c.args.rides.now c.loop-k.k no_ride c.loop-k-test.true)

pub loop-k-preserved : goal.loop-k-preserved
loop-k-preserved c = λ d.
    let rides = c.args.rides.now in
    let k = c.loop-k.k in
    let next : RideCalls = slice_index_or rides k no_ride in
    let there = slice_get-get_or rides k no_ride c.loop-k-test.true in
    comes_more _ _ _ _ _ _ (c.loop-k.invariant d) (c.in_ok-note_changes.ensures d) (below_change c.args.network.now c.args.stop c.args.second rides k next d there)

pub returns : goal.returns
returns c = λ d. comes_all d _ _ _ (c.loop-k.invariant d)
    (below_changes c.args.network.now c.args.stop c.args.second c.args.rides.now c.loop-k.k d c.requires.rides c.loop-k-test.false)
