-- What stands at the front of bytes.
--     r >>= f                what f makes of a value and the bytes behind it, or None where there is no value
--     word_at bytes          the word at the front and the bytes behind it, or None where the bytes are cut off
--     long_at, byte_at       the same for a long number and for one byte
--     name_at bytes          the same for a name
--     items_at front n       the same for so many items, one behind the other
--     both front other       one value and another one behind it
--     made f front           what f makes of a value
--     counted number front   a number, and so many items behind it
--     Gives view r found     a reader answered what was found, seen by view, or want of memory
use Rattle.std.specs.Prelude.{◌≡◌, ℕ, zero, suc, List, [], ◌∷◌, length, take, drop, Option, Some, None, Result, Ok, Err, nat_lt, if◌then◌else◌}
use Rattle.std.specs.Int.{w32, w64, from_be_bytes}
use Rattle.network_bytes.specs.declared.stop.ReadStop.{ReadStop}
use Rattle.network_bytes.specs.declared.stop.ReadStop.TheVariants as stop

infixl 10 ◌>>=◌
abbrev pub ◌>>=◌ : {A B : Type 0} → Option A → (A → Option B) → Option B
(Some x) >>= f = f x
None >>= f = None

abbrev pub Fails : {Y : Type 0} → ReadStop → Option Y → Type 0
Fails stop.Broken found = found ≡ None
Fails stop.NoMemory found = Unit {0}

abbrev pub Gives : {X Y : Type 0} → (X → Y) → Result X ReadStop → Option Y → Type 0
Gives view (Ok x) found = found ≡ Some (view x)
Gives view (Err e) found = Fails e found

unfoldable pub word_at : List ℕ → Option (ℕ × List ℕ)
word_at bytes = if nat_lt (length bytes) 4 then None else Some (from_be_bytes w32 (take 4 bytes), drop 4 bytes)

unfoldable pub long_at : List ℕ → Option (ℕ × List ℕ)
long_at bytes = if nat_lt (length bytes) 8 then None else Some (from_be_bytes w64 (take 8 bytes), drop 8 bytes)

unfoldable pub byte_at : List ℕ → Option (ℕ × List ℕ)
byte_at [] = None
byte_at (byte ∷ rest) = Some (byte, rest)

unfoldable pub name_at : List ℕ → Option (List ℕ × List ℕ)
name_at bytes = do
  many ← byte_at bytes
  if nat_lt (length many.1) many.0 then None else Some (take many.0 many.1, drop many.0 many.1)

unfoldable pub items_at : {X : Type 0} → (List ℕ → Option (X × List ℕ)) → ℕ → List ℕ → Option (List X × List ℕ)
items_at front zero bytes = Some ([], bytes)
items_at front (suc n) bytes = do
  first ← front bytes
  others ← items_at front n first.1
  Some (first.0 ∷ others.0, others.1)

abbrev pub both : {A B : Type 0} → (List ℕ → Option (A × List ℕ)) → (List ℕ → Option (B × List ℕ)) → List ℕ → Option ((A × B) × List ℕ)
both front other bytes = do
  x ← front bytes
  y ← other x.1
  Some ((x.0, y.0), y.1)

abbrev pub made : {A X : Type 0} → (A → X) → (List ℕ → Option (A × List ℕ)) → List ℕ → Option (X × List ℕ)
made make front bytes = do
  x ← front bytes
  Some (make x.0, x.1)

abbrev pub counted : {X : Type 0} → (List ℕ → Option (ℕ × List ℕ)) → (List ℕ → Option (X × List ℕ)) → List ℕ → Option (List X × List ℕ)
counted number front bytes = do
  many ← number bytes
  items_at front many.0 many.1
