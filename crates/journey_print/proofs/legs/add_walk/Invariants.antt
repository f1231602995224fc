use Rattle.std.proofs.Common.{ℕ, ◌+◌, ◌<◌, ◌^◌, List, drop}
use Rattle.move_model.specs.declared.network.NodeNo.{NodeNo}
use Rattle.move_model.specs.Streets.{IsWalk}
use Rattle.move_model.specs.Network.{streets}
use Rattle.journey_print.specs.Legs.{walk_records}
use Rattle.journey_print.specs.Records.{HasText}
use Rattle.journey_print.proofs.LegLemmas.{HasWalked}
use Rattle.journey_print.proofs.WritingLemmas.{Writes}
use Rattle.journey_print.proofs.legs.add_walk.Given as goal

abbrev pub invariant-loop-i : goal.invariant-loop-i
invariant-loop-i l =
    (a b : NodeNo) (m : ℕ) → IsWalk (streets l.network) a l.walk b m → l.begin + m < 2 ^ 64
    → HasWalked l.network l.walk b (l.begin + m) l.i l.begins
    × ((text : List ℕ) → HasText l.fn.out text
    → Writes l.fn.out l.out (walk_records l.number l.journey l.network.arcs l.walk l.begin)
    (walk_records l.number l.journey l.network.arcs (drop l.i l.walk) l.begins) text)
