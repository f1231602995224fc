-- A front of a file grows by what a read gives, and a front of a text by what a write takes.
use Rattle.std.proofs.Common.{◌≡◌, ◌∙◌, ◌≤◌, ◌<◌, ◌+◌, ℕ, List, [], ◌++◌, length, take, drop, unwrap_or, Option, Some, None, ap, sym, ◌-◌, append_assoc, arith, length-drop}
use Rattle.std.specs.Prelude.{IsSomeAnd}
use Rattle.std.proofs.Math.Seq.{take-add, take-length}
use Rattle.std.proofs.lemmas.Grind.{common_steps}
use Rattle.move_files.specs.Outside.{GoesOn}

-- these bytes are the first of the file
abbrev pub IsFront : Option (List ℕ) → List ℕ → Type 0
IsFront held bytes = bytes ≡ take (length bytes) (unwrap_or held [])

pub front-more : (held : Option (List ℕ)) (old new : List ℕ) (n : ℕ) → IsFront held old → length new ≡ length old + n → GoesOn held old n new → IsFront held new
front-more None old new n front grown on = absurd on
front-more (Some whole) old new n front grown on = rw (grown, take-add (length old) n whole, ← front) on.0

pub front-whole : (held : Option (List ℕ)) (old new : List ℕ) (n : ℕ) → n ≡ 0 → IsFront held old → GoesOn held old n new → held ≡ Some new
front-whole None old new n none front on = absurd on
front-whole (Some whole) old new n none front on =
    let all : length whole ≤ length old = on.1 none in
    let same : take (length old) whole ≡ whole = grind (arith, common_steps) in
    let grown : new ≡ old = grind (arith, common_steps, on.0) in
    ap Some (sym (grown ∙ front ∙ same))

pub front-longer : (held : Option (List ℕ)) (bytes : List ℕ) (limit : ℕ) → IsFront held bytes → limit < length bytes → IsSomeAnd held (λ whole. limit < length whole)
front-longer None bytes limit front more =
    let none : length bytes ≡ 0 = grind (arith, common_steps, ap length front) in
    absurd (omega arith)
front-longer (Some whole) bytes limit front more =
    let within : length bytes ≤ length whole = grind (arith, common_steps, ap length front) in
    omega arith

-- what was sent grows by what a write took of the rest
pub sent-more : (old bytes sent new : List ℕ) (at n : ℕ) → sent ≡ old ++ take at bytes
    → new ≡ sent ++ take n (take (length bytes - at) (drop at bytes))
    → new ≡ old ++ take (at + n) bytes
sent-more old bytes sent new at n so_far took =
    let whole : take (length bytes - at) (drop at bytes) ≡ drop at bytes = ap (λ k. take k (drop at bytes)) (sym (length-drop at bytes)) ∙ take-length (drop at bytes) in
    rw (take-add at n bytes, ← append_assoc, ← so_far, ← whole) took
