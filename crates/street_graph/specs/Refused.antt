-- Refusals among results.
--     IfRefused result P     if the result is a refusal, P holds of it
use Rattle.std.specs.Prelude.{Result, Ok, Err}
use Rattle.move_model.specs.declared.refusal.Refusal.{Refusal}
use Rattle.move_model.specs.declared.refusal.Stopped.{Stopped}
use Rattle.move_model.specs.declared.refusal.Stopped.TheVariants.{Refused, NoMemory}

abbrev pub IfRefused : {T : Type 0} → Result T Stopped → (Refusal → Type 0) → Type 0
IfRefused (Ok value) P = Unit {0}
IfRefused (Err (Refused refusal)) P = P refusal
IfRefused (Err NoMemory) P = Unit {0}
