-- What the calls of files and sinks do to what is held, sent and counted.
--     Rose before now              a count went up by one, or stands at its last value
--     NeverFalls before now        a count that is kept for each name falls for none
--     GivesAt held at n buf        the buffer begins with n bytes that stand at this place of the file
--     GoesOn held old n new        n bytes of the file stand behind those that were read before
--     ChangesOnly name old new     every other name holds what it held
--     behind held bytes            what is held, with these bytes behind it
--     HoldsPrefix old bytes new    what was held, maybe with a prefix of these bytes behind it
--     SendsPrefix old bytes new    what was sent, with a prefix of these bytes behind it
use Rattle.std.specs.Prelude.{◌≡◌, ◌≢◌, ◌⊎◌, ◌+◌, ◌-◌, ◌^◌, ◌≤◌, ℕ, List, [], ◌++◌, length, take, drop, min, unwrap_or, Option, Some, None}

-- a count went up by one, or stands at its last value
abbrev pub Rose : ℕ → ℕ → Type 0
Rose before now = min (before + 1) (2 ^ 64 - 1) ≤ now

-- a count that is kept for each name falls for none
abbrev pub NeverFalls : (List ℕ → ℕ) → (List ℕ → ℕ) → Type 0
NeverFalls before now = (name : List ℕ) → before name ≤ now name

-- the buffer begins with n bytes that stand at this place of the file, and n is 0 only at the file's end
abbrev pub GivesAt : Option (List ℕ) → ℕ → ℕ → List ℕ → Type 0
GivesAt None at n buf = ⊥
GivesAt (Some bytes) at n buf = (take n buf ≡ take n (drop at bytes)) × (n ≡ 0 → length bytes ≤ at)

-- n bytes of the file stand behind those that were read before, and n is 0 only at the file's end
abbrev pub GoesOn : Option (List ℕ) → List ℕ → ℕ → List ℕ → Type 0
GoesOn None old n new = ⊥
GoesOn (Some bytes) old n new = (new ≡ old ++ take n (drop (length old) bytes)) × (n ≡ 0 → length bytes ≤ length old)

-- every other name holds what it held
abbrev pub ChangesOnly : List ℕ → (List ℕ → Option (List ℕ)) → (List ℕ → Option (List ℕ)) → Type 0
ChangesOnly name old new = (other : List ℕ) → other ≢ name → new other ≡ old other

-- what is held, with these bytes behind it; a name that is not held counts as one with no bytes
abbrev pub behind : Option (List ℕ) → List ℕ → List ℕ
behind held bytes = unwrap_or held [] ++ bytes

-- what was held, maybe with a prefix of these bytes behind it
abbrev pub HoldsPrefix : Option (List ℕ) → List ℕ → Option (List ℕ) → Type 0
HoldsPrefix old bytes new = (new ≡ old) ⊎ ((n : ℕ) × (new ≡ Some (behind old (take n bytes))))

-- what was sent, with a prefix of these bytes behind it
abbrev pub SendsPrefix : List ℕ → List ℕ → List ℕ → Type 0
SendsPrefix old bytes new = (n : ℕ) × (new ≡ old ++ take n bytes)
