use Rattle.std.proofs.Common.{take}
use Rattle.plain_search.specs.Row.{IsWhole, WalksOn}
use Rattle.plain_search.proofs.Walked.{FellOrWalked}
use Rattle.plain_search.proofs.walks.walk_arcs.Given as goal

abbrev pub invariant-loop-arc : goal.invariant-loop-arc
invariant-loop-arc l =
    record {
      whole : IsWhole l.row;
      walks : WalksOn l.arcs l.initial.row l.row;
      falls : FellOrWalked l.fell (take l.arc-index l.arcs) l.initial.row l.row;
    }
