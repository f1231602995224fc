use Rattle.std.proofs.Common.{◌≡◌, take}
use Rattle.std.specs.Prelude.{map}
use Rattle.service_day.specs.Running.{runs_on}
use Rattle.service_day.proofs.running.active.Given as goal

abbrev pub invariant-loop-service : goal.invariant-loop-service
invariant-loop-service l = l.set ≡ map (runs_on l.day) (take l.service-index l.services)
