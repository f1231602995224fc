use Rattle.std.proofs.Common.{◌≡◌, ◌++◌, take}
use Rattle.top_call.proofs.line.Line.push_all.Given as goal

abbrev pub invariant-loop-byte : goal.invariant-loop-byte
invariant-loop-byte l = l.self ≡ l.fn.self ++ take l.byte-index l.words
