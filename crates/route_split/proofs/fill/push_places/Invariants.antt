use Rattle.std.proofs.Common.{◌≡◌, ◌++◌, take, map}
use Rattle.route_split.specs.Routes.{place_of}
use Rattle.route_split.proofs.fill.push_places.Given as goal

abbrev pub invariant-loop-call : goal.invariant-loop-call
invariant-loop-call l = l.places.items ≡ l.initial.places.items ++ map place_of (take l.call-index l.calls)
