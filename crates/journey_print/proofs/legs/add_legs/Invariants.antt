use Rattle.std.proofs.Common.{ℕ, ◌<◌, ◌^◌, List, drop}
use Rattle.move_model.specs.declared.network.NodeNo.{NodeNo}
use Rattle.move_model.specs.Journey.{Travels}
use Rattle.journey_print.specs.Legs.{leg_records}
use Rattle.journey_print.specs.Records.{HasText}
use Rattle.journey_print.proofs.LegLemmas.{OnWay}
use Rattle.journey_print.proofs.WritingLemmas.{Writes}
use Rattle.journey_print.proofs.legs.add_legs.Given as goal

abbrev pub invariant-loop-i : goal.invariant-loop-i
invariant-loop-i l =
    (s t : NodeNo) (arrive : ℕ) → Travels l.network s l.found.depart l.walks l.rides t arrive → arrive < 2 ^ 64
    → OnWay l.network l.walks l.rides t arrive l.i l.begins
    × ((text : List ℕ) → HasText l.fn.out text
    → Writes l.fn.out l.out (leg_records l.number l.journey l.network l.walks l.rides l.found.depart)
    (leg_records l.number l.journey l.network (drop l.i l.walks) (drop l.i l.rides) l.begins) text)
