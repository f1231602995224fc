use Rattle.std.proofs.Common.{◌≡◌, take}
use Rattle.route_split.specs.Chains.{key_of}
use Rattle.route_split.proofs.chains.number_of.Given as goal

abbrev pub invariant-loop-call : goal.invariant-loop-call
invariant-loop-call l = l.key ≡ key_of (take l.call-index l.calls)
