-- How the seconds of a trip are moved.
--     shifted shift second            the first second is moved to the start, and the seconds before the cut are left out
--     shifted_call shift call         the call at moved seconds
--     first_arrival shift calls       the arrival of the first call, moved
use Rattle.std.specs.Prelude.{ℕ, ◌+◌, ◌-◌, List, [], ◌∷◌}
use Rattle.move_model.specs.declared.network.Call.{Call}
use Rattle.service_day.specs.declared.shift.Shift.{Shift}

abbrev pub shifted : Shift → ℕ → ℕ
shifted shift second = shift.start + (second - shift.first) - shift.cut

abbrev pub shifted_call : Shift → Call → Call
shifted_call shift call = record call { arr = shifted shift call.arr; dep = shifted shift call.dep }

abbrev pub first_arrival : Shift → List Call → ℕ
first_arrival shift [] = 0
first_arrival shift (call ∷ calls) = shifted shift call.arr
