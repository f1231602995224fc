use Rattle.std.proofs.Common.{◌≡◌, ◌<◌, ◌+◌, ◌∷◌, ◌++◌, [], slice_index_or, sym, ◌∙◌, arith}
use Rattle.std.proofs.lemmas.Bool.{false≢true}
use Rattle.std.proofs.lemmas.Grind.{common_steps}
use Rattle.std.proofs.lemmas.Option.{slice_get-get_or}
use Rattle.move_model.specs.declared.network.Call.{Call}
use Rattle.plain_shortcuts.proofs.Lists.{push_has, comes_more, comes_none, true_unless}
use Rattle.plain_shortcuts.proofs.RideLemmas.{no_call, ride_calls, boarded_more, boarded_none, boarded_all}
use Rattle.plain_shortcuts.proofs.rides.note_boarded.Goals as goal
use Rattle.plain_shortcuts.proofs.rides.note_boarded.Goals.{then-off+in_ok-push, else-off}

pub loop-alight-preserved : goal.loop-alight-preserved
loop-alight-preserved c =
    let trip = c.args.trip in
    let calls = c.args.calls.now in
    let board = c.args.board in
    let k = c.loop-alight.alight in
    let old = c.loop-alight.rides.items in
    let on : Call = slice_index_or calls board no_call in
    let off : Call = slice_index_or calls k no_call in
    let is_on = slice_get-get_or calls board no_call c.requires.exists in
    let is_off = slice_get-get_or calls k no_call c.loop-alight-test.true in
    elim c.if-off.branch [
      | then-off+in_ok-push w ↦
          let is : c.if-off.rides.items ≡ old ++ ride_calls trip board k on off ∷ [] = grind (arith, common_steps) in
          let forward : c.args.board < c.loop-alight.alight = omega (arith, c.loop-alight.auto.alight) in
          rw is (λ r. comes_more _ _ _ _ _ _ (c.loop-alight.invariant r) (push_has old (ride_calls trip board k on off) r)
          (boarded_more trip calls board k on off is_on is_off forward (true_unless on.board c.if-not-on.false) w.if-off.true r))
      | else-off w ↦
          let is : c.if-off.rides.items ≡ old = grind (arith, common_steps) in
          rw is (λ r. comes_none _ _ _ _ (c.loop-alight.invariant r) (boarded_none trip calls board k on off is_on is_off (λ t. false≢true (sym w.if-off.false ∙ t)) r))
    ]

pub returns : goal.returns
returns c = λ r. comes_none _ _ _ _ (c.loop-alight.invariant r) (boarded_all c.args.trip c.args.calls.now c.args.board c.loop-alight.alight r c.loop-alight-test.false)
