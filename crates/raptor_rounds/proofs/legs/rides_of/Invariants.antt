use Rattle.std.proofs.Common.{◌≡◌, ◌≤◌, ◌++◌, [], ◌∷◌, take, length}
use Rattle.raptor_rounds.specs.Answers.{turned_onto}
use Rattle.raptor_rounds.proofs.legs.rides_of.Given as goal

abbrev pub invariant-loop-at : goal.invariant-loop-at
invariant-loop-at l = record {
  within : l.at ≤ length l.back.items;
  so_far : turned_onto l.back.items (l.step.ride ∷ []) ≡ l.rides ++ turned_onto (take l.at l.back.items) (l.step.ride ∷ []);
}

abbrev pub decreases-loop-at : goal.decreases-loop-at
decreases-loop-at l = l.at
