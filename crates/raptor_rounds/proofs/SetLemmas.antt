-- Sparse sets.
use Rattle.std.proofs.Common.{◌≡◌, ◌≢◌, ℕ, ◌+◌, ◌<◌, ◌≤◌, ◌↔◌, inl, inr, List, [], ◌∷◌, length, take, map, set, get_or, nat_lt, subst, sym, refl, ap, ◌∙◌, arith, Bool, true, false, get_or-set_same, get_or-set_other}
use Rattle.std.specs.Prelude.{Contains, replicate, slice_index, slice_index_or}
use Rattle.std.proofs.lemmas.List.{get_or-map, length-map, length-set, length-take-le, get_or-take, get_or_past, ext_get_or}
use Rattle.std.proofs.lemmas.Grind.{get_or_default_zero}
use Rattle.std.proofs.lemmas.Bool.{cases_lt, cases_eq, false≢true, lt-ltb, le-ltb, ltb-true}
use Rattle.raptor_rounds.specs.Sparse.{IsArranged}

-- nothing stands before the first place
pub none_in : (places : List ℕ) → map (λ place. nat_lt place 0) places ≡ replicate (length places) false
none_in [] = refl
none_in (x ∷ places) = ap (λ b. b ∷ map (λ place. nat_lt place 0) places) (le-ltb x 0 (omega arith)) ∙ ap (λ l. false ∷ l) (none_in places)

-- a number is in the set where its place is before the count
pub shown : (places : List ℕ) (count x : ℕ) → x < length places → get_or (map (λ place. nat_lt place count) places) x false ≡ nat_lt (slice_index places x) count
shown places count x lt = get_or-map (λ place. nat_lt place count) places x 0 false lt

-- what is in a set is below its bound
pub true_within : (xs : List Bool) (x : ℕ) → slice_index_or xs x false ≡ true → x < length xs
true_within xs x is = elim (cases_lt x (length xs)) [
  | inl lt ↦ lt
  | inr ge ↦ absurd (false≢true (sym (get_or_past xs x false ge) ∙ is))
]

pub numbers_in : (items places : List ℕ) (count : ℕ) → IsArranged items places → count ≤ length places
    → (x : ℕ) → Contains (take count items) x ↔ (slice_index_or (map (λ place. nat_lt place count) places) x false ≡ true)
numbers_in items places count is few x = (there, back)
  where
    there : Contains (take count items) x → slice_index_or (map (λ place. nat_lt place count) places) x false ≡ true
    there (i, lt, at) =
        let low : i < count = omega (arith, lt, length-take-le count items (omega (arith, is.one_each, few))) in
        let item : slice_index items i ≡ x = sym (get_or_default_zero items i x (omega (arith, low, few, is.one_each))) ∙ sym (get_or-take count items i x low) ∙ at in
        let place : slice_index places x ≡ i = ap (slice_index places) (sym item) ∙ is.place_of i (omega (arith, low, few)) in
        let within : x < length places = subst (λ y. y < length places) item (is.item_low i (omega (arith, low, few))) in
        shown places count x within ∙ ap (λ p. nat_lt p count) place ∙ lt-ltb i count low

    back : slice_index_or (map (λ place. nat_lt place count) places) x false ≡ true → Contains (take count items) x
    back e =
        let within : x < length places = omega (arith, true_within (map (λ place. nat_lt place count) places) x e, length-map places (λ place. nat_lt place count)) in
        let i : ℕ = slice_index places x in
        let low : i < count = ltb-true i count (sym (shown places count x within) ∙ e) in
        let long : i < length items = omega (arith, low, few, is.one_each) in (
          i,
          omega (arith, low, length-take-le count items (omega (arith, is.one_each, few))),
          get_or-take count items i x low ∙ get_or_default_zero items i x long ∙ is.item_at x within,
        )

-- the numbers that are lent differ, and are below the bound
pub numbers_once : (items places : List ℕ) (count : ℕ) → IsArranged items places → count ≤ length places
    → (i j : ℕ) → i < j → j < length (take count items) → slice_index (take count items) i ≢ slice_index (take count items) j
numbers_once items places count is few i j before lt same =
    let low : j < count = omega (arith, lt, length-take-le count items (omega (arith, is.one_each, few))) in
    let items_same : slice_index items i ≡ slice_index items j = sym (get_or-take count items i 0 (omega (arith, low, before))) ∙ same ∙ get_or-take count items j 0 low in
    omega (arith, before, sym (is.place_of i (omega (arith, before, low, few))) ∙ ap (slice_index places) items_same ∙ is.place_of j (omega (arith, low, few)))

pub numbers_within : (items places : List ℕ) (count : ℕ) → IsArranged items places → count ≤ length places
    → (i : ℕ) → i < length (take count items) → slice_index (take count items) i < length places
numbers_within items places count is few i lt =
    let low : i < count = omega (arith, lt, length-take-le count items (omega (arith, is.one_each, few))) in
    subst (λ y. y < length places) (sym (get_or-take count items i 0 low)) (is.item_low i (omega (arith, low, few)))

-- a number changes places with the first that is not in the set
module _ (items places : List ℕ) (x count p o : ℕ) (is : IsArranged items places) (x_in : x < length places)
    (p_is : p ≡ slice_index places x) (o_is : o ≡ slice_index items count) (out : count ≤ p) where
  abbrev pub items' : List ℕ
  items' = set (set items count x) p o

  abbrev pub places' : List ℕ
  places' = set (set places x count) o p

  pub place_in : p < length places
  place_in = subst (λ n. n < length places) (sym p_is) (is.place_low x x_in)

  pub count_in : count < length places
  count_in = omega (arith, out, place_in)

  pub other_in : o < length places
  other_in = subst (λ n. n < length places) (sym o_is) (is.item_low count count_in)

  places_o : slice_index places o ≡ count
  places_o = ap (slice_index places) o_is ∙ is.place_of count count_in

  items_p : slice_index items p ≡ x
  items_p = ap (slice_index items) p_is ∙ is.item_at x x_in

  now_p : slice_index items' p ≡ o
  now_p = get_or-set_same (set items count x) p o 0 (omega (arith, place_in, is.one_each, length-set items count x))

  now_count : count ≢ p → slice_index items' count ≡ x
  now_count differ = get_or-set_other (set items count x) p count o 0 differ ∙ get_or-set_same items count x 0 (omega (arith, count_in, is.one_each))

  same_item : (i : ℕ) → i ≢ p → i ≢ count → slice_index items' i ≡ slice_index items i
  same_item i off_p off_c = get_or-set_other (set items count x) p i o 0 off_p ∙ get_or-set_other items count i x 0 off_c

  now_o : slice_index places' o ≡ p
  now_o = get_or-set_same (set places x count) o p 0 (omega (arith, other_in, length-set places x count))

  now_x : x ≢ o → slice_index places' x ≡ count
  now_x differ = get_or-set_other (set places x count) o x p 0 differ ∙ get_or-set_same places x count 0 x_in

  same_place : (y : ℕ) → y ≢ o → y ≢ x → slice_index places' y ≡ slice_index places y
  same_place y off_o off_x = get_or-set_other (set places x count) o y p 0 off_o ∙ get_or-set_other places x y count 0 off_x

  place_of_now : (i : ℕ) → i < length places → slice_index places' (slice_index items' i) ≡ i
  place_of_now i lt = elim (cases_eq i p) [
    | inl at_p ↦ ap (λ k. slice_index places' (slice_index items' k)) at_p ∙ ap (slice_index places') now_p ∙ now_o ∙ sym at_p
    | inr off_p ↦ elim (cases_eq i count) [
      | inl at_c ↦
          let differ : count ≢ p = λ e. off_p (at_c ∙ e) in
          let x_off : x ≢ o = λ e. differ (sym (p_is ∙ ap (slice_index places) e ∙ places_o)) in
          ap (λ k. slice_index places' (slice_index items' k)) at_c ∙ ap (slice_index places') (now_count differ) ∙ now_x x_off ∙ sym at_c
      | inr off_c ↦
          let y_o : slice_index items i ≢ o = λ e. off_c (sym (is.place_of i lt) ∙ ap (slice_index places) e ∙ places_o) in
          let y_x : slice_index items i ≢ x = λ e. off_p (sym (is.place_of i lt) ∙ ap (slice_index places) e ∙ sym p_is) in
          ap (slice_index places') (same_item i off_p off_c) ∙ same_place (slice_index items i) y_o y_x ∙ is.place_of i lt
    ]
  ]

  item_at_now : (y : ℕ) → y < length places → slice_index items' (slice_index places' y) ≡ y
  item_at_now y lt = elim (cases_eq y o) [
    | inl at_o ↦ ap (λ k. slice_index items' (slice_index places' k)) at_o ∙ ap (slice_index items') now_o ∙ now_p ∙ sym at_o
    | inr off_o ↦ elim (cases_eq y x) [
      | inl at_x ↦
          let x_off : x ≢ o = λ e. off_o (at_x ∙ e) in
          let differ : count ≢ p = λ e. x_off (sym items_p ∙ ap (slice_index items) (sym e) ∙ sym o_is) in
          ap (λ k. slice_index items' (slice_index places' k)) at_x ∙ ap (slice_index items') (now_x x_off) ∙ now_count differ ∙ sym at_x
      | inr off_x ↦
          let i_p : slice_index places y ≢ p = λ e. off_x (sym (is.item_at y lt) ∙ ap (slice_index items) e ∙ items_p) in
          let i_c : slice_index places y ≢ count = λ e. off_o (sym (is.item_at y lt) ∙ ap (slice_index items) e ∙ sym o_is) in
          ap (slice_index items') (same_place y off_o off_x) ∙ same_item (slice_index places y) i_p i_c ∙ is.item_at y lt
    ]
  ]

  item_low_now : (i : ℕ) → i < length places → slice_index items' i < length places
  item_low_now i lt = elim (cases_eq i p) [
    | inl at_p ↦ subst (λ y. y < length places) (sym (ap (slice_index items') at_p ∙ now_p)) other_in
    | inr off_p ↦ elim (cases_eq i count) [
      | inl at_c ↦ subst (λ y. y < length places) (sym (ap (slice_index items') at_c ∙ now_count (λ e. off_p (at_c ∙ e)))) x_in
      | inr off_c ↦ subst (λ y. y < length places) (sym (same_item i off_p off_c)) (is.item_low i lt)
    ]
  ]

  place_low_now : (y : ℕ) → y < length places → slice_index places' y < length places
  place_low_now y lt = elim (cases_eq y o) [
    | inl at_o ↦ subst (λ i. i < length places) (sym (ap (slice_index places') at_o ∙ now_o)) place_in
    | inr off_o ↦ elim (cases_eq y x) [
      | inl at_x ↦ subst (λ i. i < length places) (sym (ap (slice_index places') at_x ∙ now_x (λ e. off_o (at_x ∙ e)))) count_in
      | inr off_x ↦ subst (λ i. i < length places) (sym (same_place y off_o off_x)) (is.place_low y lt)
    ]
  ]

  places_long : length places' ≡ length places
  places_long = length-set (set places x count) o p ∙ length-set places x count

  items_long : length items' ≡ length items
  items_long = length-set (set items count x) p o ∙ length-set items count x

  pub arranged_now : IsArranged items' places'
  arranged_now = record {
    one_each = items_long ∙ is.one_each ∙ sym places_long;
    item_low = λ i lt. subst (λ n. slice_index items' i < n) (sym places_long) (item_low_now i (omega (arith, lt, places_long)));
    place_low = λ y lt. subst (λ n. slice_index places' y < n) (sym places_long) (place_low_now y (omega (arith, lt, places_long)));
    place_of = λ i lt. place_of_now i (omega (arith, lt, places_long));
    item_at = λ y lt. item_at_now y (omega (arith, lt, places_long));
  }

  place_of_x : slice_index places' x ≡ count
  place_of_x = elim (cases_eq x o) [
    | inl same ↦ ap (slice_index places') same ∙ now_o ∙ p_is ∙ ap (slice_index places) same ∙ places_o
    | inr differ ↦ now_x differ
  ]

  -- a place before the next is before this one, but where it is this one
  next_or_same : (i : ℕ) → i ≢ count → nat_lt i (count + 1) ≡ nat_lt i count
  next_or_same i off = elim (cases_lt i count) [
    | inl lt ↦ lt-ltb i (count + 1) (omega arith) ∙ sym (lt-ltb i count lt)
    | inr ge ↦ le-ltb i (count + 1) (above i off ge) ∙ sym (le-ltb i count ge)
  ]
    where
      above : (i : ℕ) → i ≢ count → count ≤ i → count + 1 ≤ i
      above i off ge = elim (cases_lt count i) [
        | inl lt ↦ omega arith
        | inr le ↦ let same : i ≡ count = omega arith in absurd (off same)
      ]

  tells : (y : ℕ) → y < length places → nat_lt (slice_index places' y) (count + 1) ≡ get_or (set (map (λ place. nat_lt place count) places) x true) y false
  tells y lt = elim (cases_eq y x) [
    | inl at_x ↦
        subst (λ k. nat_lt (slice_index places' k) (count + 1) ≡ get_or (set (map (λ place. nat_lt place count) places) x true) k false) (sym at_x)
        (ap (λ i. nat_lt i (count + 1)) place_of_x ∙ lt-ltb count (count + 1) (omega arith)
        ∙ sym (get_or-set_same (map (λ place. nat_lt place count) places) x true false (omega (arith, x_in, length-map places (λ place. nat_lt place count)))))
    | inr off_x ↦ elim (cases_eq y o) [
      | inl at_o ↦
          let differ : p ≢ count = λ e. off_x (at_o ∙ o_is ∙ ap (slice_index items) (sym e) ∙ items_p) in
          ap (λ k. nat_lt (slice_index places' k) (count + 1)) at_o ∙ ap (λ i. nat_lt i (count + 1)) now_o ∙ next_or_same p differ
          ∙ le-ltb p count out ∙ sym (le-ltb count count (omega arith)) ∙ ap (λ i. nat_lt i count) (sym (ap (slice_index places) at_o ∙ places_o))
          ∙ sym (shown places count y lt) ∙ sym (get_or-set_other (map (λ place. nat_lt place count) places) x y true false off_x)
      | inr off_o ↦
          let differ : slice_index places y ≢ count = λ e. off_o (sym (is.item_at y lt) ∙ ap (slice_index items) e ∙ sym o_is) in
          ap (λ i. nat_lt i (count + 1)) (same_place y off_o off_x) ∙ next_or_same (slice_index places y) differ
          ∙ sym (shown places count y lt) ∙ sym (get_or-set_other (map (λ place. nat_lt place count) places) x y true false off_x)
    ]
  ]

  pub shown_now : map (λ place. nat_lt place (count + 1)) places' ≡ set (map (λ place. nat_lt place count) places) x true
  shown_now =
      let long = length-map places' (λ place. nat_lt place (count + 1)) in
      ext_get_or false (map (λ place. nat_lt place (count + 1)) places') (set (map (λ place. nat_lt place count) places) x true)
      (long ∙ places_long ∙ sym (length-set (map (λ place. nat_lt place count) places) x true ∙ length-map places (λ place. nat_lt place count)))
      (λ y lt. shown places' (count + 1) y (omega (arith, lt, long)) ∙ tells y (omega (arith, lt, long, places_long)))

-- a number that is in the set
pub shown_same : (places : List ℕ) (x count : ℕ) → x < length places → slice_index places x < count
    → map (λ place. nat_lt place count) places ≡ set (map (λ place. nat_lt place count) places) x true
shown_same places x count x_in lt =
    let l = map (λ place. nat_lt place count) places in
    ext_get_or false l (set l x true) (sym (length-set l x true))
    (λ y within. elim (cases_eq y x) [
      | inl at_x ↦ ap (λ k. get_or l k false) at_x ∙ shown places count x x_in ∙ lt-ltb (slice_index places x) count lt
          ∙ sym (ap (λ k. get_or (set l x true) k false) at_x ∙ get_or-set_same l x true false (omega (arith, x_in, length-map places (λ place. nat_lt place count))))
      | inr off_x ↦ sym (get_or-set_other l x y true false off_x)
    ])

-- what is read within a list doesn't depend on the default
pub read_is : (xs : List ℕ) (i r : ℕ) → i < length xs → r ≡ get_or xs i r → r ≡ slice_index xs i
read_is xs i r lt e = e ∙ get_or_default_zero xs i r lt

-- each number at its own place
pub arranged_first : (items places : List ℕ) (n : ℕ) → length items ≡ n → length places ≡ n
    → ((x : ℕ) → x < n → slice_index items x ≡ x) → ((x : ℕ) → x < n → slice_index places x ≡ x) → IsArranged items places
arranged_first items places n long long' item place = record {
  one_each = long ∙ sym long';
  item_low = λ i lt. omega (arith, item i (omega (arith, lt, long')), lt);
  place_low = λ x lt. omega (arith, place x (omega (arith, lt, long')), lt);
  place_of = λ i lt. ap (slice_index places) (item i (omega (arith, lt, long'))) ∙ place i (omega (arith, lt, long'));
  item_at = λ x lt. ap (slice_index items) (place x (omega (arith, lt, long'))) ∙ item x (omega (arith, lt, long'));
}
