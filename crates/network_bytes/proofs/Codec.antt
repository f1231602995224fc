-- A form and the reading of it belong together: what is read has the form, and what has the form is read.
--     IsCodec form Fits front     the reading of a form, for values that fit
use Rattle.std.proofs.Common.{◌≡◌, ℕ, zero, suc, ◌+◌, ◌^◌, ◌<◌, ◌≤◌, Bool, true, false, cond, ltb, List, [], ◌∷◌, ◌++◌, length, get_or, take, drop, All, Option, Some, None, refl, sym, ap, subst, ◌∙◌, append_assoc, arith, inl, inr}
use Rattle.std.specs.List.{flat_map, AllByRecursion}
use Rattle.std.specs.Int.{Width, w32, w64, from_be_bytes, to_be_bytes}
use Rattle.std.proofs.lemmas.Bool.{cases_lt, ltb-false, le-ltb}
use Rattle.std.proofs.lemmas.List.{take_at, drop_at, take-append-drop, length-append, length-take, get_or-drop, get_or-take, get_or_past}
use Rattle.std.proofs.lemmas.List.Concat.{flat_map-cons}
use Rattle.std.proofs.lemmas.Nat.{be_bytes_4, be_bytes_8, from_be_bytes-to_be_bytes_4, from_be_bytes-to_be_bytes_8}
use Rattle.network_bytes.specs.Bytes.{word, long, name_form}
use Rattle.network_bytes.specs.Front.{◌>>=◌, word_at, long_at, byte_at, name_at, items_at, both, made, counted}

abbrev pub IsBytes : List ℕ → Type 0
IsBytes bytes = (i : ℕ) → get_or bytes i 0 < 256

pub IsBytes-drop : (n : ℕ) (bytes : List ℕ) → IsBytes bytes → IsBytes (drop n bytes)
IsBytes-drop n bytes h i = rw get_or-drop (h (n + i))

pub IsBytes-take : (n : ℕ) (bytes : List ℕ) → IsBytes bytes → IsBytes (take n bytes)
IsBytes-take n bytes h i =
    elim (cases_lt i n) [
      | inl lt ↦ rw (get_or-take n bytes i 0 lt) (h i)
      | inr le ↦ rw (get_or_past (take n bytes) i 0 (omega (arith, length-take n bytes))) (omega arith)
    ]

-- the value of a step that gave one
pub bind_some : {A B : Type 0} (r : Option A) (f : A → Option B) (y : B) → (r >>= f) ≡ Some y → (x : A) × (r ≡ Some x) × (f x ≡ Some y)
bind_some (Some x) f y e = (x, refl, e)
bind_some None f y e = absurd cc

-- a test that was passed
pub guard_some : {A : Type 0} (b : Bool) (x y : A) → cond b None (Some x) ≡ Some y → (b ≡ false) × (x ≡ y)
guard_some true x y e = absurd cc
guard_some false x y e = (refl, cc)

pub some_is : {A : Type 0} (x y : A) → Some x ≡ Some y → x ≡ y
some_is x y e = cc

-- what was taken from the front
pub record Takes (bytes text rest : List ℕ) : Type 0 where
  pub parts : bytes ≡ text ++ rest
  pub rest_fits : IsBytes rest

pub Takes-then : (a x b y c : List ℕ) → Takes a x b → Takes b y c → Takes a (x ++ y) c
Takes-then a x b y c p q = record { parts = p.parts ∙ ap (λ (t : List ℕ). x ++ t) q.parts ∙ sym (append_assoc x y c); rest_fits = q.rest_fits }

pub record IsCodec {X : Type 0} (form : X → List ℕ) (Fits : X → Type 0) (front : List ℕ → Option (X × List ℕ)) : Type 0 where
  pub takes : (bytes : List ℕ) (x : X × List ℕ) → IsBytes bytes → front bytes ≡ Some x → Takes bytes (form x.0) x.1 × Fits x.0
  pub again : (x : X) (rest : List ℕ) → Fits x → front (form x ++ rest) ≡ Some (x, rest)

-- ---- numbers

-- numbers of one width, and how many bytes they have
record IsWide (w : Width) (n limit : ℕ) : Type 0 where
  len : (x : ℕ) → length (to_be_bytes w x) ≡ n
  back : (bytes : List ℕ) → length bytes ≡ n → IsBytes bytes → to_be_bytes w (from_be_bytes w bytes) ≡ bytes
  again : (x : ℕ) → x < limit → from_be_bytes w (to_be_bytes w x) ≡ x
  below : (bytes : List ℕ) → IsBytes bytes → from_be_bytes w bytes < limit

wide32 : IsWide w32 4 (2 ^ 32)
wide32 = record {
  len = λ x. refl;
  back = λ bytes len fits. be_bytes_4 bytes _ len fits refl;
  again = λ x lt. from_be_bytes-to_be_bytes_4 x lt;
  below = λ bytes fits. omega (arith, fits 0, fits 1, fits 2, fits 3);
}

wide64 : IsWide w64 8 (2 ^ 64)
wide64 = record {
  len = λ x. refl;
  back = λ bytes len fits. be_bytes_8 bytes _ len fits refl;
  again = λ x lt. from_be_bytes-to_be_bytes_8 x lt;
  below = λ bytes fits. omega (arith, fits 0, fits 1, fits 2, fits 3, fits 4, fits 5, fits 6, fits 7);
}

abbrev number_at : Width → ℕ → List ℕ → Option (ℕ × List ℕ)
number_at w n bytes = cond (ltb (length bytes) n) None (Some (from_be_bytes w (take n bytes), drop n bytes))

number_takes : (w : Width) (n limit : ℕ) → IsWide w n limit → (bytes : List ℕ) (x : ℕ × List ℕ) → IsBytes bytes → number_at w n bytes ≡ Some x → Takes bytes (to_be_bytes w x.0) x.1 × (x.0 < limit)
number_takes w n limit wide bytes x fits e =
    let g = guard_some (ltb (length bytes) n) (from_be_bytes w (take n bytes), drop n bytes) x e in
    let enough : n ≤ length bytes = ltb-false _ _ g.0 in
    let few = IsBytes-take n bytes fits in
    let is : to_be_bytes w (from_be_bytes w (take n bytes)) ≡ take n bytes = wide.back (take n bytes) (omega (arith, length-take n bytes)) few in
    subst (λ (y : ℕ × List ℕ). Takes bytes (to_be_bytes w y.0) y.1 × (y.0 < limit)) g.1
    (record { parts = rw is (sym (take-append-drop n bytes)); rest_fits = IsBytes-drop n bytes fits }, wide.below (take n bytes) few)

number_again : (w : Width) (n limit : ℕ) → IsWide w n limit → (x : ℕ) (rest : List ℕ) → x < limit → number_at w n (to_be_bytes w x ++ rest) ≡ Some (x, rest)
number_again w n limit wide x rest lt =
    let len = wide.len x in
    let enough : ltb (length (to_be_bytes w x ++ rest)) n ≡ false = le-ltb _ _ (omega (arith, length-append (to_be_bytes w x) rest)) in
    rw (enough, take_at (to_be_bytes w x) rest n len, drop_at (to_be_bytes w x) rest n len, wide.again x lt) refl

pub word_codec : IsCodec word (λ n. n < 2 ^ 32) word_at
unfolding word word_at
word_codec = record { takes = number_takes w32 4 (2 ^ 32) wide32; again = number_again w32 4 (2 ^ 32) wide32 }

pub long_codec : IsCodec long (λ n. n < 2 ^ 64) long_at
unfolding long long_at
long_codec = record { takes = number_takes w64 8 (2 ^ 64) wide64; again = number_again w64 8 (2 ^ 64) wide64 }

IsBytes-rest : (b : ℕ) (bytes : List ℕ) → IsBytes (b ∷ bytes) → IsBytes bytes
IsBytes-rest b bytes h i = h (suc i)

byte_takes : (bytes : List ℕ) (x : ℕ × List ℕ) → IsBytes bytes → byte_at bytes ≡ Some x → Takes bytes (x.0 ∷ []) x.1 × (x.0 < 256)
unfolding byte_at
byte_takes [] x fits e = absurd cc
byte_takes (b ∷ bytes) x fits e =
    subst (λ (y : ℕ × List ℕ). Takes (b ∷ bytes) (y.0 ∷ []) y.1 × (y.0 < 256)) (some_is (b, bytes) x e) (record { parts = refl; rest_fits = IsBytes-rest b bytes fits }, fits 0)

pub byte_codec : IsCodec (λ b. b ∷ []) (λ b. b < 256) byte_at
unfolding byte_at
byte_codec = record { takes = byte_takes; again = λ b rest lt. refl }

-- ---- names

name_takes : (bytes : List ℕ) (x : List ℕ × List ℕ) → IsBytes bytes → name_at bytes ≡ Some x → Takes bytes (name_form x.0) x.1 × (length x.0 < 256)
unfolding name_at
name_takes bytes x fits e =
    let b = bind_some (byte_at bytes) (λ n. cond (ltb (length n.1) n.0) None (Some (take n.0 n.1, drop n.0 n.1))) x e in
    let n = b.0 in
    let t = byte_takes bytes n fits b.1 in
    let g = guard_some (ltb (length n.1) n.0) (take n.0 n.1, drop n.0 n.1) x b.2 in
    let enough : n.0 ≤ length n.1 = ltb-false _ _ g.0 in
    let len : length (take n.0 n.1) ≡ n.0 = omega (arith, length-take n.0 n.1) in
    let second : Takes n.1 (take n.0 n.1) (drop n.0 n.1) = record { parts = sym (take-append-drop n.0 n.1); rest_fits = IsBytes-drop n.0 n.1 t.0.rest_fits } in
    let whole : Takes bytes (n.0 ∷ take n.0 n.1) (drop n.0 n.1) = Takes-then bytes (n.0 ∷ []) n.1 (take n.0 n.1) (drop n.0 n.1) t.0 second in
    let named : Takes bytes (name_form (take n.0 n.1)) (drop n.0 n.1) = subst (λ (k : ℕ). Takes bytes (k ∷ take n.0 n.1) (drop n.0 n.1)) (sym len) whole in
    subst (λ (p : List ℕ × List ℕ). Takes bytes (name_form p.0) p.1 × (length p.0 < 256)) g.1 (named, omega (arith, t.1))

name_again : (name rest : List ℕ) → length name < 256 → name_at (name_form name ++ rest) ≡ Some (name, rest)
unfolding name_at byte_at
name_again name rest lt =
    let enough : ltb (length (name ++ rest)) (length name) ≡ false = le-ltb _ _ (omega (arith, length-append name rest)) in
    rw (enough, take_at name rest (length name) refl, drop_at name rest (length name) refl) refl

pub name_codec : IsCodec name_form (λ name. length name < 256) name_at
name_codec = record { takes = name_takes; again = name_again }

-- ---- one behind the other

both_takes : {A B : Type 0} {form : A → List ℕ} {Fits : A → Type 0} {front : List ℕ → Option (A × List ℕ)} {form_of : B → List ℕ} {FitsTo : B → Type 0} {front_of : List ℕ → Option (B × List ℕ)}
    → IsCodec form Fits front → IsCodec form_of FitsTo front_of → (bytes : List ℕ) (x : (A × B) × List ℕ) → IsBytes bytes → both front front_of bytes ≡ Some x
    → Takes bytes (form x.0.0 ++ form_of x.0.1) x.1 × (Fits x.0.0 × FitsTo x.0.1)
both_takes {A} {B} {form} {Fits} {front} {form_of} {FitsTo} {front_of} first second bytes x fits e =
    let a = bind_some (front bytes) (λ y. front_of y.1 >>= λ z. Some ((y.0, z.0), z.1)) x e in
    let b = bind_some (front_of a.0.1) (λ z. Some ((a.0.0, z.0), z.1)) x a.2 in
    let t = first.takes bytes a.0 fits a.1 in
    let u = second.takes a.0.1 b.0 t.0.rest_fits b.1 in
    let pair : (A × B) × List ℕ = ((a.0.0, b.0.0), b.0.1) in
    subst (λ (y : (A × B) × List ℕ). Takes bytes (form y.0.0 ++ form_of y.0.1) y.1 × (Fits y.0.0 × FitsTo y.0.1)) (some_is pair x b.2)
    (Takes-then bytes (form a.0.0) a.0.1 (form_of b.0.0) b.0.1 t.0 u.0, (t.1, u.1))

both_again : {A B : Type 0} {form : A → List ℕ} {Fits : A → Type 0} {front : List ℕ → Option (A × List ℕ)} {form_of : B → List ℕ} {FitsTo : B → Type 0} {front_of : List ℕ → Option (B × List ℕ)}
    → IsCodec form Fits front → IsCodec form_of FitsTo front_of → (x : A × B) (rest : List ℕ) → Fits x.0 × FitsTo x.1
    → both front front_of ((form x.0 ++ form_of x.1) ++ rest) ≡ Some (x, rest)
both_again {A} {B} {form} {Fits} {front} {form_of} {FitsTo} {front_of} first second x rest fits =
    ap (both front front_of) (append_assoc (form x.0) (form_of x.1) rest) ∙ rw (first.again x.0 (form_of x.1 ++ rest) fits.0, second.again x.1 rest fits.1) refl

pub both_codec : {A B : Type 0} {form : A → List ℕ} {Fits : A → Type 0} {front : List ℕ → Option (A × List ℕ)} {form_of : B → List ℕ} {FitsTo : B → Type 0} {front_of : List ℕ → Option (B × List ℕ)}
    → IsCodec form Fits front → IsCodec form_of FitsTo front_of → IsCodec (λ x. form x.0 ++ form_of x.1) (λ x. Fits x.0 × FitsTo x.1) (both front front_of)
both_codec first second = record { takes = both_takes first second; again = both_again first second }

-- a value of another type, made of the one that was read
pub made_codec : {A X : Type 0} {form : A → List ℕ} {Fits : A → Type 0} {front : List ℕ → Option (A × List ℕ)} (make : A → X) (back : X → A)
    → ((a : A) → back (make a) ≡ a) → ((x : X) → make (back x) ≡ x) → IsCodec form Fits front → IsCodec (λ x. form (back x)) (λ x. Fits (back x)) (made make front)
made_codec {A} {X} {form} {Fits} {front} make back there here codec = record {
  takes = λ bytes x fits e.
      let a = bind_some (front bytes) (λ y. Some (make y.0, y.1)) x e in
      let t = codec.takes bytes a.0 fits a.1 in
      let seen : X × List ℕ = (make a.0.0, a.0.1) in
      subst (λ (y : X × List ℕ). Takes bytes (form (back y.0)) y.1 × Fits (back y.0)) (some_is seen x a.2) (rw there t);
  again = λ x rest fits. rw (codec.again (back x) rest fits, here x) refl;
}

-- ---- items

items_take : {X : Type 0} {form : X → List ℕ} {Fits : X → Type 0} {front : List ℕ → Option (X × List ℕ)} → IsCodec form Fits front
    → (n : ℕ) (bytes : List ℕ) (x : List X × List ℕ) → IsBytes bytes → items_at front n bytes ≡ Some x → Takes bytes (flat_map form x.0) x.1 × ((length x.0 ≡ n) × AllByRecursion Fits x.0)
unfolding items_at
items_take {X} {form} {Fits} {front} codec zero bytes x fits e =
    subst (λ (y : List X × List ℕ). Takes bytes (flat_map form y.0) y.1 × ((length y.0 ≡ 0) × AllByRecursion Fits y.0)) (some_is ([], bytes) x e) (record { parts = refl; rest_fits = fits }, (refl, tt))
items_take {X} {form} {Fits} {front} codec (suc n) bytes x fits e =
    let a = bind_some (front bytes) (λ first. items_at front n first.1 >>= λ others. Some (first.0 ∷ others.0, others.1)) x e in
    let b = bind_some (items_at front n a.0.1) (λ others. Some (a.0.0 ∷ others.0, others.1)) x a.2 in
    let first = codec.takes bytes a.0 fits a.1 in
    let second = items_take codec n a.0.1 b.0 first.0.rest_fits b.1 in
    let joined = Takes-then bytes (form a.0.0) a.0.1 (flat_map form b.0.0) b.0.1 first.0 second.0 in
    let seen : List X × List ℕ = (a.0.0 ∷ b.0.0, b.0.1) in
    subst (λ (y : List X × List ℕ). Takes bytes (flat_map form y.0) y.1 × ((length y.0 ≡ suc n) × AllByRecursion Fits y.0)) (some_is seen x b.2) (joined, (ap suc second.1.0, (first.1, second.1.1)))

items_again : {X : Type 0} {form : X → List ℕ} {Fits : X → Type 0} {front : List ℕ → Option (X × List ℕ)} → IsCodec form Fits front
    → (xs : List X) (rest : List ℕ) → AllByRecursion Fits xs → items_at front (length xs) (flat_map form xs ++ rest) ≡ Some (xs, rest)
unfolding items_at
items_again codec [] rest fits = refl
items_again {X} {form} {Fits} {front} codec (x ∷ xs) rest fits =
    let regrouped : flat_map form (x ∷ xs) ++ rest ≡ form x ++ (flat_map form xs ++ rest) = ap (λ (t : List ℕ). t ++ rest) (flat_map-cons form x xs) ∙ append_assoc (form x) (flat_map form xs) rest in
    ap (items_at front (suc (length xs))) regrouped ∙ rw (codec.again x (flat_map form xs ++ rest) fits.0, items_again codec xs rest fits.1) refl

pub items_codec : {X : Type 0} {form : X → List ℕ} {Fits : X → Type 0} {front : List ℕ → Option (X × List ℕ)} → IsCodec form Fits front
    → (n : ℕ) → IsCodec (flat_map form) (λ xs. (length xs ≡ n) × AllByRecursion Fits xs) (items_at front n)
items_codec {X} {form} {Fits} {front} codec n = record {
  takes = items_take codec n;
  again = λ xs rest fits. ap (λ (k : ℕ). items_at front k (flat_map form xs ++ rest)) (sym fits.0) ∙ items_again codec xs rest fits.1;
}

-- behind their number
pub counted_codec : {X : Type 0} {form : X → List ℕ} {Fits : X → Type 0} {front : List ℕ → Option (X × List ℕ)} {number : ℕ → List ℕ} {limit : ℕ} {number_at : List ℕ → Option (ℕ × List ℕ)}
    → IsCodec number (λ n. n < limit) number_at → IsCodec form Fits front
    → IsCodec (λ xs. number (length xs) ++ flat_map form xs) (λ xs. (length xs < limit) × AllByRecursion Fits xs) (counted number_at front)
counted_codec {X} {form} {Fits} {front} {number} {limit} {number_at} numbers codec = record {
  takes = λ bytes x fits e.
      let a = bind_some (number_at bytes) (λ many. items_at front many.0 many.1) x e in
      let t = numbers.takes bytes a.0 fits a.1 in
      let u = items_take codec a.0.0 a.0.1 x t.0.rest_fits a.2 in
      let whole = Takes-then bytes (number a.0.0) a.0.1 (flat_map form x.0) x.1 t.0 u.0 in
      (subst (λ (k : ℕ). Takes bytes (number k ++ flat_map form x.0) x.1) (sym u.1.0) whole, (subst (λ (k : ℕ). k < limit) (sym u.1.0) t.1, u.1.1));
  again = λ xs rest fits.
      ap (counted number_at front) (append_assoc (number (length xs)) (flat_map form xs) rest) ∙ rw (numbers.again (length xs) (flat_map form xs ++ rest) fits.0) (items_again codec xs rest fits.1);
}
