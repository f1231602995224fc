-- What tests of a text say of the rules of an id.
use Rattle.std.proofs.Common.{◌≡◌, ◌≤◌, ℕ, List, length, Some, None, Bool, true, false, refl, arith}
use Rattle.std.specs.Prelude.{IsUtf8, ◌==◌, nat_le}
use Rattle.std.specs.Str.{is_utf8}
use Rattle.std.proofs.lemmas.Str.{IsUtf8-from_is_utf8, is_utf8-from_IsUtf8}
use Rattle.move_model.specs.declared.refusal.Cause.TheVariants as cause
use Rattle.tables.specs.Values.{id_empty, id_long, id_not_utf8, id_broken}

pub id_holds : (text : List ℕ) → (length text == 0) ≡ false → length text ≤ 255 → IsUtf8 text → id_broken text ≡ None
unfolding id_empty id_long id_not_utf8
id_holds text some short utf8 =
    let fits : nat_le (length text) 255 ≡ true = grind arith in
    let valid : is_utf8 text ≡ true = is_utf8-from_IsUtf8 text utf8 in
    rw (some, fits, valid) refl

invalid : (text : List ℕ) (b : Bool) → is_utf8 text ≡ b → (IsUtf8 text → ⊥) → b ≡ false
invalid text true e not = absurd (not (IsUtf8-from_is_utf8 text e))
invalid text false e not = refl

pub id_not : (text : List ℕ) → (length text == 0) ≡ false → length text ≤ 255 → (IsUtf8 text → ⊥) → id_broken text ≡ Some cause.NotUtf8
unfolding id_empty id_long id_not_utf8
id_not text some short not =
    let fits : nat_le (length text) 255 ≡ true = grind arith in
    let bad : is_utf8 text ≡ false = invalid text (is_utf8 text) refl not in
    rw (some, fits, bad) refl
