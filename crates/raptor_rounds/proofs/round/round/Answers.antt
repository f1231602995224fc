use Rattle.std.proofs.Common.{sym, ap, arith}
use Rattle.std.specs.Prelude.{vec_len}
use Rattle.raptor_rounds.proofs.TimesLemmas.{few_places}
use Rattle.raptor_rounds.proofs.TurnLemmas.{stays_closed, round_goes_on}
use Rattle.raptor_rounds.proofs.round.round.Goals as goal

pub returns-clause-closed : goal.returns-clause-closed
returns-clause-closed g c =
    stays_closed c.args.table.now c.args.list.now c.first_calls.new.starts c.args.ready.now c.clear_better.new.ready c.go_on.new.ready
    c.args.found.now c.clear_fresh.new.found c.scan_all.new.found (few_places c.args.table.now.stops c.args.table.now.routes c.routes-routes.ensures.whole) c.clear_fresh.ensures
    c.first_calls.ensures.known c.scan_all.ensures.scanned c.scan_all.ensures.falls c.clear_better.ensures
    c.go_on.ensures.known c.go_on.ensures.falls

pub returns-clause-goes_on : goal.returns-clause-goes_on
returns-clause-goes_on g c q k is last same_list closed =
    round_goes_on c.args.table.now c.args.list.now c.first_calls.new.starts c.args.ready.now c.clear_better.new.ready c.go_on.new.ready
    c.args.found.now c.clear_fresh.new.found c.scan_all.new.found (few_places c.args.table.now.stops c.args.table.now.routes c.routes-routes.ensures.whole) c.clear_fresh.ensures
    c.first_calls.ensures.known c.scan_all.ensures.scanned c.scan_all.ensures.falls c.clear_better.ensures
    c.go_on.ensures.known c.go_on.ensures.falls
    q k c.args.table.now.stops c.args.base c.args.slots.now c.keep_steps.new.slots is same_list closed
    c.keep_steps.ensures.below c.keep_steps.ensures.kept
    (omega (arith, c.scan_all.ensures.falls.marks, c.clear_fresh.ensures.marks, c.requires.sizes.fresh))
    (omega (arith, c.scan_all.ensures.falls.steps, ap vec_len c.clear_fresh.ensures.steps, c.requires.sizes.steps))
    (λ all was. c.scan_all.ensures.sound _ last (sym is.buffer_is) is.holds all was)
    c.go_on.ensures.sound
