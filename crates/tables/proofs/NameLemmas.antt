-- Names as the keys of a set.
use Rattle.std.proofs.Common.{◌≡◌, ◌∙◌, ℕ, List, map, Vec, Global, sym, ap}
use Rattle.std.specs.Prelude.{position, not, is_none, nat_eq}
use Rattle.std.specs.List.{list_any}
use Rattle.std.specs.Str.{bytes_eq}
use Rattle.std.specs.Cmp.Lexicographic.{pointwise}
use Rattle.tables.specs.Names.{place_of}
use Rattle.tables.proofs.Positions.{position-map, not-list_any}

-- the names that a set's keys are
abbrev pub names_in : List (Vec ℕ Global) → List (List ℕ)
names_in keys = map (λ (v : Vec ℕ Global). v.items) keys

pub place-is : (keys : List (Vec ℕ Global)) (name : List ℕ) → position (λ (v : Vec ℕ Global). pointwise nat_eq name v.items) keys ≡ place_of name (names_in keys)
place-is keys name = sym (position-map (bytes_eq name) (λ (v : Vec ℕ Global). v.items) keys)

pub new-is : (keys : List (Vec ℕ Global)) (name : List ℕ) → not (list_any (λ (v : Vec ℕ Global). pointwise nat_eq name v.items) keys) ≡ is_none (place_of name (names_in keys))
new-is keys name = not-list_any (λ (v : Vec ℕ Global). pointwise nat_eq name v.items) keys ∙ ap is_none (place-is keys name)
