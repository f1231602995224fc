-- How the numbers of stops grow by one stop.
use Rattle.std.proofs.Common.{◌≡◌, ◌∙◌, ◌+◌, ◌<◌, ℕ, zero, suc, List, [], ◌∷◌, ◌++◌, length, take, get_or, Bool, true, false, cond, Option, Some, None, Bor, refl, sym, ap, arith, length-append}
use Rattle.std.specs.Prelude.{find, slice_get}
use Rattle.std.specs.Map.{lookup}
use Rattle.std.specs.Str.{bytes_eq}
use Rattle.std.proofs.lemmas.List.{take_more, length-take-le}
use Rattle.std.proofs.lemmas.Slice.Eq.{bytes_eq-Decides}
use Rattle.refusals.specs.Refusal.{or_then}
use Rattle.move_model.specs.declared.network.Stop.{Stop}
use Rattle.query_table.specs.Places.{stop_named}
use Rattle.query_table.specs.Numbered.{Numbers, IsNumbered}

first-or : {A : Type 0} (b : Bool) (v : A) (rest later : Option A) → cond b (Some v) (or_then rest later) ≡ or_then (cond b (Some v) rest) later
first-or true v rest later = refl
first-or false v rest later = refl

lookup-push : {K X : Type 0} (test : K → Bool) (es : List (K × X)) (k : K) (v : X)
    → lookup test (es ++ (k, v) ∷ []) ≡ or_then (lookup test es) (cond (test k) (Some v) None)
lookup-push test [] k v = refl
lookup-push test (e ∷ es) k v = rw (lookup-push test es k v) (first-or (test e.0) e.1 (lookup test es) (cond (test k) (Some v) None))

find-push : {X : Type 0} (p : X → Bool) (xs : List X) (x : X) → find p (xs ++ x ∷ []) ≡ or_then (find p xs) (cond (p x) (Some x) None)
find-push p [] x = refl
find-push p (y ∷ xs) x = rw (find-push p xs x) (first-or (p y) y (find p xs) (cond (p x) (Some x) None))

slice_get-front : {X : Type 0} (xs : List X) (x : X) (k : ℕ) → k < length xs → slice_get (xs ++ x ∷ []) k ≡ slice_get xs k
slice_get-front [] x k lt = absurd (omega arith)
slice_get-front (y ∷ xs) x zero lt = refl
slice_get-front (y ∷ xs) x (suc k) lt = slice_get-front xs x k (omega arith)

slice_get-last : {X : Type 0} (xs : List X) (x : X) → slice_get (xs ++ x ∷ []) (length xs) ≡ Some x
slice_get-last [] x = refl
slice_get-last (y ∷ xs) x = slice_get-last xs x

within : {X : Type 0} (xs : List X) (k : ℕ) → k < length xs → slice_get xs k ≡ None → ⊥
within [] k lt none = omega arith
within (y ∷ xs) zero lt none = cc none
within (y ∷ xs) (suc k) lt none = within xs k (omega arith) none

-- a stop with an id that no earlier one has
push-new : (stops : List Stop) (x : Stop) (o : Option ℕ) (f : Option Stop) (b : Bool) → Numbers stops o f
    → Numbers (stops ++ x ∷ []) (or_then o (cond b (Some (length stops)) None)) (or_then f (cond b (Some x) None))
push-new stops x None f true n = rw n (slice_get-last stops x, omega (arith, length-append stops (x ∷ [])))
push-new stops x None f false n = rw n refl
push-new stops x (Some k) None b n = absurd (within stops k n.1 n.0)
push-new stops x (Some k) (Some y) b n = (slice_get-front stops x k n.1 ∙ n.0, omega (arith, n.1, length-append stops (x ∷ [])))

-- a stop with an id that an earlier one has
push-known : (stops : List Stop) (x : Stop) (o : Option ℕ) (f : Option Stop) (b : Bool) → Numbers stops o f → (b ≡ true → o ≡ None → ⊥)
    → Numbers (stops ++ x ∷ []) o (or_then f (cond b (Some x) None))
push-known stops x None f true n known = absurd (known refl refl)
push-known stops x None f false n known = rw n refl
push-known stops x (Some k) None b n known = absurd (within stops k n.1 n.0)
push-known stops x (Some k) (Some y) b n known = (slice_get-front stops x k n.1 ∙ n.0, omega (arith, n.1, length-append stops (x ∷ [])))

-- where a map gives the number of each id, it does with one more stop whose id it has
pub numbered-known : (entries : List (Bor (List ℕ) × ℕ)) (stops : List Stop) (x : Stop) (k : ℕ) → IsNumbered entries stops
    → lookup (λ (key : Bor (List ℕ)). bytes_eq x.name key.now) entries ≡ Some k → IsNumbered entries (stops ++ x ∷ [])
numbered-known entries stops x k n there = λ id.
    rw (find-push (λ (s : Stop). bytes_eq id s.name) stops x)
    (push-known stops x (lookup (λ (key : Bor (List ℕ)). bytes_eq id key.now) entries) (stop_named id stops) (bytes_eq id x.name) (n id) (λ e none.
    let same : id ≡ x.name = (bytes_eq-Decides id x.name).0 e in
    let absent : lookup (λ (key : Bor (List ℕ)). bytes_eq x.name key.now) entries ≡ None = rw (← same) none in
    let clash : Some k ≡ None = sym there ∙ absent in
    cc clash))

-- and with one more stop whose id is put behind the others
pub numbered-new : (entries : List (Bor (List ℕ) × ℕ)) (stops : List Stop) (x : Stop) (key : Bor (List ℕ)) → IsNumbered entries stops
    → key.now ≡ x.name → IsNumbered (entries ++ (key, length stops) ∷ []) (stops ++ x ∷ [])
numbered-new entries stops x key n same = λ id.
    rw (find-push (λ (s : Stop). bytes_eq id s.name) stops x, lookup-push (λ (other : Bor (List ℕ)). bytes_eq id other.now) entries key (length stops), same)
    (push-new stops x (lookup (λ (other : Bor (List ℕ)). bytes_eq id other.now) entries) (stop_named id stops) (bytes_eq id x.name) (n id))

-- what a number says of the stop that it was looked up for
pub no_stop : (stops : List Stop) (o : Option ℕ) (f : Option Stop) → Numbers stops o f → None ≡ o → None ≡ f
no_stop stops None f n e = sym n
no_stop stops (Some k) f n e = cc e

pub stop_at : (stops : List Stop) (o : Option ℕ) (f : Option Stop) (k : ℕ) → Numbers stops o f → Some k ≡ o → slice_get stops k ≡ f
stop_at stops None f k n e = cc e
stop_at stops (Some j) f k n e = let same : k ≡ j = cc e in rw same n.0

pub in_range : (stops : List Stop) (o : Option ℕ) (f : Option Stop) (k : ℕ) → Numbers stops o f → Some k ≡ o → k < length stops
in_range stops None f k n e = cc e
in_range stops (Some j) f k n e = let same : k ≡ j = cc e in rw same n.1

-- one more stop of a list that is gone through
pub known_more : (entries : List (Bor (List ℕ) × ℕ)) (stops : List Stop) (i : ℕ) (x : Stop) (k : ℕ) → IsNumbered entries (take i stops) → i < length stops
    → x ≡ get_or stops i x → lookup (λ (key : Bor (List ℕ)). bytes_eq x.name key.now) entries ≡ Some k → IsNumbered entries (take (i + 1) stops)
known_more entries stops i x k n lt is there = λ id.
    let more : take (i + 1) stops ≡ take i stops ++ x ∷ [] = take_more stops i x lt ∙ ap (λ y. take i stops ++ y ∷ []) (sym is) in
    rw more (numbered-known entries (take i stops) x k n there id)

pub new_more : (entries new : List (Bor (List ℕ) × ℕ)) (stops : List Stop) (i : ℕ) (x : Stop) (key : Bor (List ℕ)) → IsNumbered entries (take i stops) → i < length stops
    → x ≡ get_or stops i x → key.now ≡ x.name → new ≡ entries ++ (key, i) ∷ [] → IsNumbered new (take (i + 1) stops)
new_more entries new stops i x key n lt is same grows = λ id.
    let more : take (i + 1) stops ≡ take i stops ++ x ∷ [] = take_more stops i x lt ∙ ap (λ y. take i stops ++ y ∷ []) (sym is) in
    let long : length (take i stops) ≡ i = length-take-le i stops (omega arith) in
    rw (more, grows, ← ap (λ m. entries ++ (key, m) ∷ []) long) (numbered-new entries (take i stops) x key n same id)
