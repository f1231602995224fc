-- The ids of stops, by one stop more.
use Rattle.std.proofs.Common.{◌≡◌, ◌∙◌, ◌+◌, ◌<◌, ℕ, List, [], ◌∷◌, ◌++◌, length, take, get_or, Bool, true, false, cond, Option, Some, None, refl, sym, ap}
use Rattle.std.specs.Prelude.{find, position, is_some, is_none, not, ◌||◌, if◌then◌else◌}
use Rattle.std.specs.List.{list_any}
use Rattle.std.specs.Str.{bytes_eq}
use Rattle.std.proofs.lemmas.List.{take_more}
use Rattle.std.proofs.lemmas.List.Folds.{list_any-append}
use Rattle.std.proofs.lemmas.Slice.Eq.{bytes_eq-Decides}
use Rattle.gtfs_feed.specs.declared.feed.FeedStop.{FeedStop}
use Rattle.tables.specs.Names.{place_of}
use Rattle.tables.proofs.Positions.{not-list_any}
use Rattle.stop_places.specs.Ids.{AreIdsOf}

some-cons : {X : Type 0} (b : Bool) (x : X) (rest : Option X) (any : Bool) → is_some rest ≡ any → is_some (cond b (Some x) rest) ≡ (b || any)
some-cons true x rest any e = refl
some-cons false x rest any e = e

is_some-find : {X : Type 0} (p : X → Bool) (xs : List X) → is_some (find p xs) ≡ list_any p xs
is_some-find p [] = refl
is_some-find p (x ∷ xs) = some-cons (p x) x (find p xs) (list_any p xs) (is_some-find p xs)

some-of : (o : Option ℕ) (b : Bool) → not b ≡ is_none o → is_some o ≡ b
some-of None true e = cc e
some-of None false e = refl
some-of (Some k) true e = refl
some-of (Some k) false e = cc e

is_some-position : {X : Type 0} (p : X → Bool) (xs : List X) → is_some (position p xs) ≡ list_any p xs
is_some-position p xs = some-of (position p xs) (list_any p xs) (not-list_any p xs)

there : (o : Option ℕ) → false ≡ is_none o → is_some o ≡ true
there None e = cc e
there (Some k) e = refl

absorbed : (b e : Bool) → (e ≡ true → b ≡ true) → b ≡ (b || (e || false))
absorbed true e f = refl
absorbed false true f = f refl
absorbed false false f = refl

-- the ids so far and one name more, which is put last where it is new
names-any : (id name : List ℕ) (names new : List (List ℕ)) (added : Bool) → added ≡ is_none (place_of name names)
    → new ≡ (if added then names ++ name ∷ [] else names)
    → list_any (bytes_eq id) new ≡ (list_any (bytes_eq id) names || (bytes_eq id name || false))
names-any id name names new true is grows = rw grows (list_any-append (bytes_eq id) names (name ∷ []))
names-any id name names new false is grows =
    rw grows (absorbed (list_any (bytes_eq id) names) (bytes_eq id name) (λ e.
    let same : id ≡ name = (bytes_eq-Decides id name).0 e in
    rw same (sym (is_some-position (bytes_eq name) names) ∙ there (place_of name names) is)))

-- the names are still the ids of the stops
pub ids_more : (names new : List (List ℕ)) (stops : List FeedStop) (i : ℕ) (x : FeedStop) (added : Bool) → AreIdsOf names (take i stops) → i < length stops
    → x ≡ get_or stops i x → added ≡ is_none (place_of x.name names) → new ≡ (if added then names ++ x.name ∷ [] else names)
    → AreIdsOf new (take (i + 1) stops)
ids_more names new stops i x added n lt is is_new grows = λ id.
    let more : take (i + 1) stops ≡ take i stops ++ x ∷ [] = take_more stops i x lt ∙ ap (λ y. take i stops ++ y ∷ []) (sym is) in
    let so_far : list_any (bytes_eq id) names ≡ list_any (λ (s : FeedStop). bytes_eq id s.name) (take i stops) =
    sym (is_some-position (bytes_eq id) names) ∙ n id ∙ is_some-find (λ (s : FeedStop). bytes_eq id s.name) (take i stops) in
    rw more (
    is_some-position (bytes_eq id) new
    ∙ names-any id x.name names new added is_new grows
    ∙ ap (λ b. b || (bytes_eq id x.name || false)) so_far
    ∙ sym (list_any-append (λ (s : FeedStop). bytes_eq id s.name) (take i stops) (x ∷ []))
    ∙ sym (is_some-find (λ (s : FeedStop). bytes_eq id s.name) (take i stops ++ x ∷ [])))
