-- What loops over rules need.
use Rattle.std.proofs.Common.{◌≡◌, ◌∙◌, ℕ, ◌+◌, ◌<◌, ◌≤◌, Bool, true, false, List, [], ◌∷◌, ◌++◌, length, take, map, get_or, Contains, Option, Some, None, not, refl, sym, ap, subst, inl, inr, ◌⊎◌, arith}
use Rattle.std.specs.Prelude.{nat_lt, is_none, IsTrue, All, if◌then◌else◌}
use Rattle.std.specs.List.{position_or_len}
use Rattle.std.specs.Str.{bytes_eq}
use Rattle.std.proofs.lemmas.Bool.Decides.{nat_tests}
use Rattle.std.proofs.lemmas.List.{take_all, take_more, map_push, length-take, length-map, get_or-map, get_or-take}
use Rattle.std.proofs.lemmas.List.Sums.{fails_before_first}
use Rattle.std.proofs.lemmas.List.Quantifiers.{all_pairs_push, position-Some}
use Rattle.std.proofs.lemmas.Slice.Eq.{bytes_eq-Decides}
use Rattle.move_model.specs.declared.network.Stop.{Stop}
use Rattle.tables.specs.Names.{place_of}
use Rattle.network_rules.specs.Rules.{Differ}

-- what the items before the end have, all have
pub whole : {X : Type 0} (P : X → Type 0) (xs : List X) (i : ℕ) → length xs ≤ i → All P (take i xs) → All P xs
whole P xs i end all = subst (All P) (take_all i xs end) all

past : (b : Bool) (n : ℕ) → (if b then Some n else None) ≡ None → b ≡ false
past true n e = cc e
past false n e = refl

-- a name without a place is none of the names
absent : (names : List (List ℕ)) (id : List ℕ) → place_of id names ≡ None → Contains names id → ⊥
absent names id none (k, lt, is) =
    let over = past (nat_lt (position_or_len (bytes_eq id) names) (length names)) (position_or_len (bytes_eq id) names) none in
    let first : k < position_or_len (bytes_eq id) names = grind (arith, nat_tests) in
    let differs : bytes_eq id (get_or names k id) ≡ false = fails_before_first (bytes_eq id) names k id first in
    let same : bytes_eq id id ≡ true = (bytes_eq-Decides id id).1 refl in
    let here : bytes_eq id (get_or names k id) ≡ true = rw is same in
    cc (differs, here)

no_place : (o : Option ℕ) → true ≡ is_none o → o ≡ None
no_place None e = refl
no_place (Some k) e = absurd cc

some_place : (o : Option ℕ) → false ≡ is_none o → (k : ℕ) × (o ≡ Some k)
some_place None e = absurd cc
some_place (Some k) e = (k, refl)

abbrev name_of : Stop → List ℕ
name_of stop = stop.name

-- one more stop with another name
pub differ-more : (stops : List Stop) (names : List (List ℕ)) (i : ℕ) (stop : Stop) → i < length stops → stop ≡ get_or stops i stop → names ≡ map (λ s. s.name) (take i stops)
    → Differ (take i stops) → true ≡ is_none (place_of stop.name names) → Differ (take (i + 1) stops)
differ-more stops names i stop within is are differ new =
    let P : List Stop → Type 0 = Differ in
    let none = no_place (place_of stop.name names) new in
    let pushed : Differ (take i stops ++ stop ∷ []) = all_pairs_push (λ (a b : Stop). a.name ≡ b.name → ⊥) (take i stops) stop differ
    (λ k d lt same. absent names stop.name none (rw are (k, rw length-map lt, get_or-map name_of (take i stops) k d stop.name lt ∙ same))) in
    subst P (sym (take_more stops i stop within ∙ ap (λ (s : Stop). take i stops ++ s ∷ []) (sym is))) pushed

-- and its name among the names
pub names-more : (stops : List Stop) (names new : List (List ℕ)) (i : ℕ) (stop : Stop) → i < length stops → stop ≡ get_or stops i stop → names ≡ map (λ s. s.name) (take i stops)
    → new ≡ names ++ stop.name ∷ [] → new ≡ map (λ s. s.name) (take (i + 1) stops)
names-more stops names new i stop within is are e =
    let more : take (i + 1) stops ≡ take i stops ++ stop ∷ [] = take_more stops i stop within ∙ ap (λ (s : Stop). take i stops ++ s ∷ []) (sym is) in
    e ∙ ap (λ (t : List (List ℕ)). t ++ stop.name ∷ []) are ∙ sym (map_push name_of (take i stops) stop) ∙ ap (map name_of) (sym more)

-- a stop with the name of an earlier one
pub repeats : (stops : List Stop) (names : List (List ℕ)) (i : ℕ) (stop : Stop) → i < length stops → stop ≡ get_or stops i stop → names ≡ map (λ s. s.name) (take i stops)
    → false ≡ is_none (place_of stop.name names) → Differ stops → ⊥
repeats stops names i stop within is are old differ =
    let at = some_place (place_of stop.name names) old in
    let k = at.0 in
    let found = position-Some (bytes_eq stop.name) names k stop.name at.1 in
    let few : length names ≡ length (take i stops) = ap length are ∙ length-map (take i stops) name_of in
    let earlier : k < i = omega (arith, found.0, few, length-take i stops) in
    let same : stop.name ≡ get_or names k stop.name = (bytes_eq-Decides stop.name (get_or names k stop.name)).0 found.1 in
    let at_k : get_or names k stop.name ≡ (get_or stops k stop).name = ap (λ (t : List (List ℕ)). get_or t k stop.name) are ∙ get_or-map name_of (take i stops) k stop stop.name (omega (arith, found.0, few)) ∙ ap name_of (get_or-take i stops k stop earlier) in
    differ k i stop earlier within (sym (same ∙ at_k) ∙ ap name_of is)
