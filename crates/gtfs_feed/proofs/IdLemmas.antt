-- What a test of an id says.
use Rattle.std.proofs.Common.{◌≡◌, ℕ, ◌<◌, List, length, get_or, Contains, Option, Some, None, Bool, true, false, refl, inl, inr, ◌⊎◌, arith}
use Rattle.std.specs.Prelude.{nat_lt, nat_le, ◌==◌, is_some, is_none, if◌then◌else◌}
use Rattle.std.specs.List.{position_or_len}
use Rattle.std.specs.Str.{bytes_eq}
use Rattle.std.proofs.lemmas.Bool.Decides.{nat_tests}
use Rattle.std.proofs.lemmas.List.Sums.{fails_before_first}
use Rattle.std.proofs.lemmas.Slice.Eq.{bytes_eq-Decides}
use Rattle.refusals.specs.Refusal.{or_then}
use Rattle.move_model.specs.declared.refusal.Cause.{Cause}
use Rattle.move_model.specs.declared.refusal.Cause.TheVariants as cause
use Rattle.tables.specs.Names.{place_of}
use Rattle.tables.specs.Values.{id_broken, id_empty, id_long, id_not_utf8}
use Rattle.gtfs_feed.specs.Feed.{IsId}
use Rattle.gtfs_feed.specs.Ids.{repeated_broken}

pub both-none : (a b : Option Cause) → or_then a b ≡ None → (a ≡ None) × (b ≡ None)
both-none None b e = (refl, e)
both-none (Some x) b e = cc e

cause-then : (b : Bool) (x : Cause) → (if b then Some x else None) ≡ None → b ≡ false
cause-then true x e = cc e
cause-then false x e = refl

cause-else : (b : Bool) (x : Cause) → (if b then None else Some x) ≡ None → b ≡ true
cause-else true x e = refl
cause-else false x e = cc e

pub is-id : (id : List ℕ) → id_broken id ≡ None → IsId id
unfolding id_empty id_long
is-id id e =
    let parts = both-none (id_empty id) (or_then (id_long id) (or_then (id_not_utf8 id) None)) e in
    let some = cause-then (length id == 0) cause.IdEmpty parts.0 in
    let few = cause-else (nat_le (length id) 255) (cause.IdLong (length id)) (both-none (id_long id) (or_then (id_not_utf8 id) None) parts.1).0 in
    record { some = grind (arith, nat_tests); few = grind (arith, nat_tests) }

is-none : {X : Type 0} (o : Option X) → is_some o ≡ false → o ≡ None
is-none None e = refl
is-none (Some x) e = cc e

-- an id that stands once, by the first two rules of a row
pub new-id : (names : List (List ℕ)) (id : List ℕ) (rest : Option Cause) → or_then (id_broken id) (or_then (repeated_broken names id) rest) ≡ None
    → IsId id × (place_of id names ≡ None)
unfolding repeated_broken
new-id names id rest e =
    let parts = both-none (id_broken id) (or_then (repeated_broken names id) rest) e in
    let once = both-none (repeated_broken names id) rest parts.1 in
    (is-id id parts.0, is-none (place_of id names) (cause-then (is_some (place_of id names)) cause.Repeated once.0))

past : (b : Bool) (n : ℕ) → (if b then Some n else None) ≡ None → b ≡ false
past true n e = cc e
past false n e = refl

-- a name without a place is none of the names
pub absent : (names : List (List ℕ)) (id : List ℕ) → place_of id names ≡ None → Contains names id → ⊥
absent names id none (k, lt, is) =
    let over = past (nat_lt (position_or_len (bytes_eq id) names) (length names)) (position_or_len (bytes_eq id) names) none in
    let first : k < position_or_len (bytes_eq id) names = grind (arith, nat_tests) in
    let differs : bytes_eq id (get_or names k id) ≡ false = fails_before_first (bytes_eq id) names k id first in
    let same : bytes_eq id id ≡ true = (bytes_eq-Decides id id).1 refl in
    let here : bytes_eq id (get_or names k id) ≡ true = rw is same in
    cc (differs, here)

-- a name that was put among the names
pub inserted : (o : Option ℕ) (added : Bool) (new more old : List (List ℕ)) → added ≡ is_none o → o ≡ None → new ≡ (if added then more else old) → new ≡ more
inserted None added new more old is e names = rw is at names
inserted (Some k) added new more old is e names = cc e

pub inserted_or_not : (added : Bool) (new more old : List (List ℕ)) → new ≡ (if added then more else old) → (new ≡ more) ⊎ (new ≡ old)
inserted_or_not true new more old names = inl names
inserted_or_not false new more old names = inr names
