use Rattle.plain_shortcuts.proofs.Lists.{comes_more, comes_none}
use Rattle.plain_shortcuts.proofs.RideLemmas.{below_call, below_calls}
use Rattle.plain_shortcuts.proofs.rides.note_trip.Goals as goal

pub loop-board-preserved : goal.loop-board-preserved
loop-board-preserved c = λ r. comes_more _ _ _ _ _ _ (c.loop-board.invariant r) (c.in_ok-note_boarded.ensures r) (below_call c.args.trip c.args.calls.now c.loop-board.board r)

pub returns : goal.returns
returns c = λ r. comes_none _ _ _ _ (c.loop-board.invariant r) (below_calls c.args.trip c.args.calls.now c.loop-board.board r c.loop-board-test.false)
