use Rattle.std.proofs.Common.{◌≡◌, ◌∷◌, ◌++◌, [], false, slice_index_or, arith}
use Rattle.std.proofs.lemmas.Grind.{common_steps}
use Rattle.std.proofs.lemmas.Option.{slice_get-get_or}
use Rattle.std.proofs.lemmas.List.Elements.{Contains-get_or}
use Rattle.plain_shortcuts.specs.declared.rides.RideCalls.{RideCalls}
use Rattle.plain_shortcuts.proofs.Lists.{push_has, comes_more, comes_none}
use Rattle.plain_shortcuts.proofs.RideLemmas.{no_ride}
use Rattle.plain_shortcuts.proofs.ChangeLemmas.{changes_more, changes_none, changes_all}
use Rattle.plain_shortcuts.proofs.changes.note_changes.Goals as goal
use Rattle.plain_shortcuts.proofs.changes.note_changes.Goals.{in-Some+in_ok-push-in-Some, in-None}

pub change_of-requires-clause-next : goal.change_of-requires-clause-next
change_of-requires-clause-next c = (c.requires.rides (slice_index_or c.args.rides.now c.loop-k.k no_ride)).0 (Contains-get_or c.args.rides.now c.loop-k.k no_ride c.loop-k-test.true)

pub loop-k-preserved : goal.loop-k-preserved
loop-k-preserved c =
    let n = c.args.network.now in
    let rides = c.args.rides.now in
    let k = c.loop-k.k in
    let old = c.loop-k.changes.items in
    let next : RideCalls = slice_index_or rides k no_ride in
    let there = slice_get-get_or rides k no_ride c.loop-k-test.true in
    elim c.match-change_of.branch [
      | in-Some+in_ok-push-in-Some w ↦
          let is : c.match-change_of.changes.items ≡ old ++ w.in-Some.change ∷ [] = grind (arith, common_steps) in
          let made = w.in-Some.ensures in
          rw is (λ d. comes_more _ _ _ _ _ _ (c.loop-k.invariant d) (push_has old w.in-Some.change d)
          (changes_more n c.args.stop c.args.second c.args.first rides k next there w.in-Some.change d made.0 made.1 made.2))
      | in-None w ↦
          let is : c.match-change_of.changes.items ≡ old = grind (arith, common_steps) in
          rw is (λ d. comes_none _ _ _ _ (c.loop-k.invariant d) (changes_none n c.args.stop c.args.second c.args.first rides k next there d w.in-None.ensures))
    ]

pub returns : goal.returns
returns c = λ d. comes_none _ _ _ _ (c.loop-k.invariant d)
    (changes_all c.args.network.now c.args.stop c.args.second c.args.first c.args.rides.now c.loop-k.k d c.requires.rides c.loop-k-test.false)
