-- How a number grows by its digits.
use Rattle.std.proofs.Common.{◌≡◌, ◌∙◌, ◌+◌, ◌-◌, ◌*◌, ◌<◌, ◌≤◌, ℕ, zero, suc, List, [], ◌∷◌, ◌++◌, length, drop, take, get_or, replicate, Option, Some, None, Bool, true, false, refl, sym, ap, inl, inr, arith}
use Rattle.std.specs.Prelude.{nat_le, if◌then◌else◌, ◌&&◌, option_map}
use Rattle.std.specs.List.{list_all}
use Rattle.std.specs.Char.{is_ascii_digit}
use Rattle.std.proofs.lemmas.List.{drop_more, drop_all, take_all, append-nil, take-append-le, take-append-drop, take-replicate}
use Rattle.std.proofs.Math.Seq.{take-append-add}
use Rattle.std.proofs.lemmas.List.Folds.{list_all-append}
use Rattle.std.proofs.lemmas.Bool.{cases_lt}
use Rattle.std.proofs.lemmas.Option.{none-some}
use Rattle.feed_values.specs.Coordinate.{digits_after, six_digits, whole_digits, decimals, is_decimal, millionths, without_sign, is_minus, with_sign, coordinate_of}

pub grows : (ds : List ℕ) (n : ℕ) → n ≤ digits_after n ds
unfolding digits_after
grows [] n = omega arith
grows (d ∷ ds) n = omega (arith, grows ds (n * 10 + (d - 48)))

pub digits_after-append : (a b : List ℕ) (n : ℕ) → digits_after n (a ++ b) ≡ digits_after (digits_after n a) b
unfolding digits_after
digits_after-append [] b n = refl
digits_after-append (d ∷ a) b n = digits_after-append a b (n * 10 + (d - 48))

pub step : (text : List ℕ) (i n : ℕ) → i < length text
    → digits_after n (drop i text) ≡ digits_after (n * 10 + (get_or text i 0 - 48)) (drop (i + 1) text)
unfolding digits_after
step text i n lt = rw (drop_more text i 0 lt) refl

pub none : (n m : ℕ) → m < n → None ≡ (if nat_le n m then Some n else None)
none n m h = let no : nat_le n m ≡ false = grind arith in rw no refl

pub some : (n m : ℕ) → n ≤ m → Some n ≡ (if nat_le n m then Some n else None)
some n m h = let yes : nat_le n m ≡ true = grind arith in rw yes refl

-- where the number is too great at some digit, it is too great
pub too_great : (text : List ℕ) (i n m most whole : ℕ) → i < length text → digits_after n (drop i text) ≡ whole → m ≡ n * 10 + (get_or text i 0 - 48)
    → most < m → None ≡ (if nat_le whole most then Some whole else None)
too_great text i n m most whole lt so_far is h =
    let e = step text i n lt in
    none whole most (omega (arith, grows (drop (i + 1) text) (n * 10 + (get_or text i 0 - 48))))

pub at_end : (text : List ℕ) (i n most whole : ℕ) → length text ≤ i → digits_after n (drop i text) ≡ whole → n ≤ most
    → Some n ≡ (if nat_le whole most then Some whole else None)
unfolding digits_after
at_end text i n most whole end so_far h =
    let e : drop i text ≡ [] = drop_all i text end in
    let same : n ≡ whole = rw e at so_far in
    rw (← same) (some n most h)

-- six decimals, where some are written and the others are filled in
pub filled : (ds : List ℕ) (i : ℕ) → i ≤ 6 → i ≤ length ds → length ds ≤ i → take i ds ++ replicate (6 - i) 48 ≡ six_digits ds
unfolding six_digits
filled ds i few long end =
    let all : take i ds ≡ ds = take_all i ds end in
    let six : length ds + (6 - i) ≡ 6 = omega arith in
    let front : take (length ds + (6 - i)) (ds ++ replicate 6 48) ≡ ds ++ take (6 - i) (replicate 6 48) = take-append-add ds (replicate 6 48) (6 - i) in
    rw (all, ← take-replicate {X = ℕ} (6 - i) 6 48 (omega arith)) (sym (rw six at front))

pub cut : (ds : List ℕ) → 6 ≤ length ds → take 6 ds ++ replicate 0 48 ≡ six_digits ds
unfolding six_digits
cut ds long = append-nil (take 6 ds) ∙ sym (take-append-le 6 ds (replicate 6 48) long)

both-true : (x y : Bool) → (x && y) ≡ true → (x ≡ true) × (y ≡ true)
both-true true y e = (refl, e)
both-true false y e = cc e

pub all-take : (ds : List ℕ) (n : ℕ) → list_all is_ascii_digit ds ≡ true → list_all is_ascii_digit (take n ds) ≡ true
all-take ds n h =
    let split = sym (list_all-append is_ascii_digit (take n ds) (drop n ds)) ∙ ap (list_all is_ascii_digit) (take-append-drop n ds) ∙ h in
    (both-true _ _ split).0

pub digits-six : (ds : List ℕ) → list_all is_ascii_digit ds ≡ true → list_all is_ascii_digit (six_digits ds) ≡ true
unfolding six_digits
digits-six ds h = all-take (ds ++ replicate 6 48) 6 (list_all-append is_ascii_digit ds (replicate 6 48) ∙ rw h refl)

-- the value of a magnitude, part by part
pub not_decimal : (text : List ℕ) (most : ℕ) → is_decimal text ≡ false
    → None ≡ (if is_decimal text && nat_le (millionths text) most then Some (millionths text) else None)
not_decimal text most bad = rw bad refl

pub of_decimal : (text : List ℕ) (most value : ℕ) → is_decimal text ≡ true → value ≡ millionths text
    → (if nat_le value most then Some value else None) ≡ (if is_decimal text && nat_le (millionths text) most then Some (millionths text) else None)
of_decimal text most value good same = rw (good, same) refl

pub number_is : (n m k : ℕ) → Some n ≡ (if nat_le m k then Some m else None) → n ≡ m
number_is n m k e = elim (cases_lt k m) [ inl lt ↦ let s = none m k lt in cc (e, s) | inr ge ↦ let s = some m k ge in cc (e, s) ]

pub whole_too_great : (text : List ℕ) (most : ℕ) → is_decimal text ≡ true
    → None ≡ (if nat_le (digits_after 0 (whole_digits text)) most then Some (digits_after 0 (whole_digits text)) else None)
    → None ≡ (if is_decimal text && nat_le (millionths text) most then Some (millionths text) else None)
unfolding millionths
whole_too_great text most good over =
    let e = digits_after-append (whole_digits text) (six_digits (decimals text)) 0 in
    rw good (elim (cases_lt most (digits_after 0 (whole_digits text))) [
      | inl lt ↦ none _ _ (omega (arith, e, grows (six_digits (decimals text)) (digits_after 0 (whole_digits text))))
      | inr ge ↦ let s = some _ _ ge in absurd (none-some _ (over ∙ sym s))
    ])

-- a coordinate, part by part
pub too_long : (degrees : ℕ) (text : List ℕ) → 40 < length text → None ≡ coordinate_of degrees text
unfolding coordinate_of
too_long degrees text long = let over : nat_le (length text) 40 ≡ false = grind arith in rw over refl

pick : {X Y : Type 0} (b : Bool) (f : X → Y) (x : X) (o : Option X) → o ≡ (if b then Some x else None) → option_map f o ≡ (if b then Some (f x) else None)
pick true f x o e = rw e refl
pick false f x o e = rw e refl

pub within : (degrees : ℕ) (text : List ℕ) (o : Option ℕ) → length text ≤ 40
    → o ≡ (if is_decimal (without_sign text) && nat_le (millionths (without_sign text)) (degrees * 1000000) then Some (millionths (without_sign text)) else None)
    → option_map (with_sign (is_minus text)) o ≡ coordinate_of degrees text
unfolding coordinate_of
within degrees text o short e = let fits : nat_le (length text) 40 ≡ true = grind arith in rw fits (pick _ (with_sign (is_minus text)) _ o e)
