use Rattle.std.proofs.Common.{◌≡◌, ◌+◌, length}
use Rattle.std.specs.Prelude.{All}
use Rattle.move_model.specs.Network.{IsNetwork, IsNumbered}
use Rattle.plain_search.specs.Row.{IsWhole}
use Rattle.plain_search.specs.Levels.{IsTable}
use Rattle.plain_search.proofs.rounds.rows_from.Given as goal

abbrev pub invariant-loop-k : goal.invariant-loop-k
invariant-loop-k l =
    record {
      many : length l.rows.items ≡ l.k + 1;
      whole : All IsWhole l.rows.items;
      table : IsNetwork l.network → IsNumbered l.network → IsTable l.network l.fn.from l.depart l.rows.items;
    }
