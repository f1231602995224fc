use Rattle.std.proofs.Common.{◌+◌, ◌≤◌, [], length, get_or}
use Rattle.move_model.specs.declared.network.NodeNo.{NodeNo}
use Rattle.move_model.specs.Network.{IsNetwork}
use Rattle.plain_search.specs.declared.way.Way.{Way}
use Rattle.plain_search.specs.Row.{IsWayTo}
use Rattle.plain_search.specs.Levels.{IsTable}
use Rattle.plain_search.proofs.Legs.{Pending}
use Rattle.plain_search.proofs.answer.journey_to.Given as goal

abbrev pub invariant-loop-level : goal.invariant-loop-level
invariant-loop-level l =
    record {
      few : length l.rides.items + l.level ≤ l.k + 1;
      pending : (from : NodeNo) (way : Way) → IsNetwork l.network → IsTable l.network from l.depart l.rows → IsWayTo (get_or l.rows l.k []) l.fn.to way
          → Pending l.network l.rows l.fn.to way.second l.level l.node l.walks.items l.rides.items;
    }
