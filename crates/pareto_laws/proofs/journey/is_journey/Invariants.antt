use Rattle.std.proofs.Common.{◌≡◌, ◌+◌, ◌↔◌, length, drop}
use Rattle.move_model.specs.Journey.{IsSomeJourney}
use Rattle.pareto_laws.proofs.JourneyLegs.{ToSomewhere}
use Rattle.pareto_laws.proofs.journey.is_journey.Given as goal

abbrev pub invariant-loop-i : goal.invariant-loop-i
invariant-loop-i l =
    record {
      shape : length l.walks ≡ length l.rides + 1;
      same : ToSomewhere l.network l.place l.second (drop l.i l.walks) (drop l.i l.rides) ↔ IsSomeJourney l.network l.journey;
    }
