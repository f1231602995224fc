use Rattle.std.proofs.Common.{false}
use Rattle.move_model.specs.declared.network.Call.{Call}
use Rattle.service_day.proofs.GatherLemmas.{earliest-found}
use Rattle.service_day.proofs.gather.earliest_start.Goals as goal

pub returns : goal.returns
returns c =
    let none : Call = record { stop = record { 0 = 0 }; arr = 0; dep = 0; board = false; alight = false } in
    rw (c.if-not-night.false, c.saturating_sub.ensures, c.as_slice-calls.ensures) (earliest-found c.args.trip.now none c.requires.calls c.requires.rising)
