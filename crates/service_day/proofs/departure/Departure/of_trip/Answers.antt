use Rattle.std.proofs.Common.{◌∙◌, ap, List}
use Rattle.move_model.specs.declared.network.Call.{Call}
use Rattle.move_model.specs.declared.network.Trip.{Trip}
use Rattle.service_day.proofs.NightLemmas.{trip_of-parts, unmoved}
use Rattle.service_day.proofs.departure.Departure.of_trip.Goals as goal

pub returns-clause-same : goal.returns-clause-same
returns-clause-same c =
    let of_calls : List Call → Trip = λ (calls : List Call). record { name = c.args.trip.now.name; calls = calls } in
    trip_of-parts c.new.result _ _ _ c.new.ensures.name c.new.ensures.shift (c.new.ensures.calls ∙ c.as_slice.ensures) ∙ ap of_calls (unmoved _)
