use Rattle.std.proofs.Common.{take}
use Rattle.std.specs.Prelude.{All}
use Rattle.network_file.specs.Compiled.{IsTransfer}
use Rattle.network_shape.proofs.transfers.each_is_transfer.Given as goal

abbrev pub invariant-loop-i : goal.invariant-loop-i
invariant-loop-i l = All (IsTransfer l.stops) (take l.i l.list)
