use Rattle.std.proofs.Common.{◌≡◌, take, false}
use Rattle.std.specs.Prelude.{map}
use Rattle.service_day.proofs.running.none.Given as goal

abbrev pub invariant-loop-service : goal.invariant-loop-service
invariant-loop-service l = l.set ≡ map (λ service. false) (take l._service-index l.services)
