use Rattle.std.proofs.Common.{◌≡◌, take}
use Rattle.trip_calls.specs.CallRules.{previous_sequence, last_departure, IsFirstFault}
use Rattle.trip_calls.proofs.fault.first_fault.Given as goal

abbrev pub invariant-loop-place : goal.invariant-loop-place
invariant-loop-place l = record {
  previous : l.previous ≡ previous_sequence l.calls l.place;
  earlier : l.earlier ≡ last_departure (take l.place l.calls);
  fault : IsFirstFault l.calls l.place l.fault;
}
