-- The first line of a text, the first field of a line, and the numbers of digits.
use Rattle.std.proofs.Common.{◌≡◌, ◌∙◌, ◌+◌, ◌-◌, ◌<◌, ◌≤◌, ℕ, suc, Bool, true, false, cond, List, [], ◌∷◌, length, take, drop, get_or, refl, sym, ap, inl, inr, arith}
use Rattle.std.specs.Prelude.{◌==◌, not, filter, All, nat_lt}
use Rattle.std.specs.List.{slice_split, onto_first, position_or_len, before_first, after_first}
use Rattle.std.specs.Str.Lines.{lines, lines_of_parts, strip_carriage_return}
use Rattle.std.proofs.lemmas.List.Splits.{slice_split_first, slice_split_none}
use Rattle.std.proofs.lemmas.List.Sums.{position_or_len_is, fails_before_first, passes_at_first, prefix_len-le-length}
use Rattle.std.proofs.lemmas.List.Elements.{All-from_get_or}
use Rattle.std.proofs.lemmas.List.{drop_all, drop_more, take_all, length-take-le, take_rest}
use Rattle.std.proofs.lemmas.Bool.{cases_lt}
use Rattle.std.proofs.lemmas.Bool.Decides.{nat_tests}
use Rattle.street_graph.specs.Text.{is_blank, fields}

parts-of : (x y : List ℕ) (ys : List (List ℕ)) → lines_of_parts (x ∷ y ∷ ys) ≡ strip_carriage_return x ∷ lines_of_parts (y ∷ ys)
parts-of x y ys = refl

onto-first : (x : List ℕ) (b : ℕ) (parts : List (List ℕ)) → lines_of_parts (x ∷ onto_first b parts) ≡ strip_carriage_return x ∷ lines_of_parts (onto_first b parts)
onto-first x b [] = refl
onto-first x b (y ∷ ys) = refl

split-of : (x : List ℕ) (b : ℕ) (rest : List (List ℕ)) (at : Bool)
    → lines_of_parts (x ∷ cond at ([] ∷ rest) (onto_first b rest)) ≡ strip_carriage_return x ∷ lines_of_parts (cond at ([] ∷ rest) (onto_first b rest))
split-of x b rest true = refl
split-of x b rest false = onto-first x b rest

-- a part before a newline is a line
pub lines_of_parts-split : (x text : List ℕ) → lines_of_parts (x ∷ slice_split (λ b. b == 10) text) ≡ strip_carriage_return x ∷ lines text
lines_of_parts-split x [] = refl
lines_of_parts-split x (b ∷ bs) = split-of x b (slice_split (λ c. c == 10) bs) (b == 10)

-- where no element passes, the first place is past the end
pub none_passes : (p : ℕ → Bool) (xs : List ℕ) → ((k : ℕ) → k < length xs → p (get_or xs k 0) ≡ false) → length xs ≡ position_or_len p xs
none_passes p xs h = sym (position_or_len_is p xs (length xs) 0 (omega arith) h (λ lt. absurd (omega arith)))

-- the last line of a text ends where the text ends
pub lines_one : (text : List ℕ) → 0 < length text → position_or_len (λ b. b == 10) text ≡ length text → lines text ≡ text ∷ []
lines_one text some e =
    let none : All (λ b. (b == 10) ≡ false) text = All-from_get_or (λ b. (b == 10) ≡ false) text 0 (λ i lt. fails_before_first (λ b. b == 10) text i 0 (omega arith)) in
    let full : (length text == 0) ≡ false = grind (arith, nat_tests) in
    rw (slice_split_none (λ b. b == 10) text none, full) refl

-- the first line ends at the first newline
pub lines_first : (text : List ℕ) → position_or_len (λ b. b == 10) text < length text
    → lines text ≡ strip_carriage_return (before_first (λ b. b == 10) text) ∷ lines (after_first (λ b. b == 10) text)
lines_first text lt =
    rw (slice_split_first (λ b. b == 10) text 0 lt) (lines_of_parts-split (before_first (λ b. b == 10) text) (after_first (λ b. b == 10) text))

blank-of : (b : ℕ) (rest : List (List ℕ)) (at : Bool) → at ≡ true
    → filter (λ piece. nat_lt 0 (length piece)) (cond at ([] ∷ rest) (onto_first b rest)) ≡ filter (λ piece. nat_lt 0 (length piece)) rest
blank-of b rest true e = refl
blank-of b rest false e = cc

-- a blank in front is cut
pub fields-blank : (b : ℕ) (bs : List ℕ) → is_blank b ≡ true → fields (b ∷ bs) ≡ fields bs
unfolding fields
fields-blank b bs e = blank-of b (slice_split is_blank bs) (is_blank b) e

blanks-of : (b : ℕ) (bs : List ℕ) (at : Bool) → is_blank b ≡ at
    → fields (drop (position_or_len (λ c. not (is_blank c)) bs) bs) ≡ fields bs
    → fields (drop (cond (not (not at)) (1 + position_or_len (λ c. not (is_blank c)) bs) 0) (b ∷ bs)) ≡ fields (b ∷ bs)
blanks-of b bs true e more =
    let next : 1 + position_or_len (λ c. not (is_blank c)) bs ≡ suc (position_or_len (λ c. not (is_blank c)) bs) = omega arith in
    rw next (more ∙ sym (fields-blank b bs e))
blanks-of b bs false e more = refl

-- all blanks in front are cut
pub fields-drop-blanks : (line : List ℕ) → fields (drop (position_or_len (λ b. not (is_blank b)) line) line) ≡ fields line
fields-drop-blanks [] = refl
fields-drop-blanks (b ∷ bs) = blanks-of b bs (is_blank b) refl (fields-drop-blanks bs)

fields-nil : fields [] ≡ []
unfolding fields
fields-nil = refl

-- a line of blanks has no field
pub fields_none : (line : List ℕ) → position_or_len (λ b. not (is_blank b)) line ≡ length line → fields line ≡ []
fields_none line e =
    let rest : drop (position_or_len (λ b. not (is_blank b)) line) line ≡ [] = drop_all (position_or_len (λ b. not (is_blank b)) line) line (omega arith) in
    sym (fields-drop-blanks line) ∙ ap fields rest ∙ fields-nil

whole : (line : List ℕ) → 0 < length line → position_or_len is_blank line ≡ length line → fields line ≡ line ∷ []
unfolding fields
whole line some e =
    let none : All (λ b. is_blank b ≡ false) line = All-from_get_or (λ b. is_blank b ≡ false) line 0 (λ i lt. fails_before_first is_blank line i 0 (omega arith)) in
    let full : nat_lt 0 (length line) ≡ true = grind (arith, nat_tests) in
    rw (slice_split_none is_blank line none, full) refl

part : (line : List ℕ) → 0 < position_or_len is_blank line → position_or_len is_blank line < length line
    → fields line ≡ before_first is_blank line ∷ fields (after_first is_blank line)
unfolding fields
part line some lt =
    let full : nat_lt 0 (length (before_first is_blank line)) ≡ true = grind (arith, nat_tests, length-take-le (position_or_len is_blank line) line (omega arith)) in
    rw (slice_split_first is_blank line 0 lt, full) refl

-- the first field ends at the first blank
pub fields_first : (line : List ℕ) → 0 < position_or_len is_blank line
    → fields line ≡ take (position_or_len is_blank line) line ∷ fields (drop (position_or_len is_blank line) line)
fields_first line some =
    elim (cases_lt (position_or_len is_blank line) (length line)) [
      | inl lt ↦
          part line some lt
          ∙ ap (λ more. before_first is_blank line ∷ more)
          (sym (ap fields (drop_more line (position_or_len is_blank line) 0 lt)
          ∙ fields-blank (get_or line (position_or_len is_blank line) 0) (after_first is_blank line) (passes_at_first is_blank line 0 lt)))
      | inr ge ↦
          let all : position_or_len is_blank line ≡ length line = omega (arith, prefix_len-le-length (λ b. not (is_blank b)) line) in
          let end : length line ≤ position_or_len is_blank line = omega arith in
          rw (take_all (position_or_len is_blank line) line end, drop_all (position_or_len is_blank line) line end, fields-nil)
          (whole line (omega arith) all)
    ]

begins-of : (x : ℕ) (more rest : List ℕ) → not (is_blank x) ≡ true → rest ≡ x ∷ more → 0 < position_or_len is_blank rest
begins-of x more rest e is = rw (is, e) (omega arith)

-- behind the blanks in front stands the first field
pub fields_next : (line rest : List ℕ) (b e : ℕ) → b ≡ position_or_len (λ c. not (is_blank c)) line → b < length line
    → rest ≡ take (length line - b) (drop b line) → e ≡ position_or_len is_blank rest
    → fields line ≡ take e rest ∷ fields (take (length rest - e) (drop e rest))
fields_next line rest b e begin lt rest_is end =
    let cut : rest ≡ drop b line = rest_is ∙ take_rest line b in
    let first : not (is_blank (get_or line b 0)) ≡ true = rw begin (passes_at_first (λ c. not (is_blank c)) line 0 (rw begin at lt)) in
    let some : 0 < position_or_len is_blank rest = begins-of (get_or line b 0) (drop (b + 1) line) rest first (cut ∙ drop_more line b 0 lt) in
    let same : fields line ≡ fields rest = sym (fields-drop-blanks line) ∙ ap fields (ap (λ n. drop n line) (sym begin) ∙ sym cut) in
    same ∙ rw (take_rest rest e, end) (fields_first rest some)

-- a text without a newline is its last line
pub line_last : (text : List ℕ) (e : ℕ) → 0 < length text → e ≡ position_or_len (λ b. b == 10) text → e ≡ length text
    → lines text ≡ text ∷ lines (take (length text - e) (drop e text))
line_last text e some place all =
    let end : length text ≤ e = omega arith in
    rw (take_rest text e, drop_all e text end) (lines_one text some (sym place ∙ all))

-- the line up to the first newline, and the text behind it
pub line_next : (text line : List ℕ) (e : ℕ) → e ≡ position_or_len (λ b. b == 10) text → e ≤ length text → (e ≡ length text → ⊥)
    → line ≡ strip_carriage_return (take e text)
    → lines text ≡ line ∷ lines (take (length text - (e + 1)) (drop (e + 1) text))
line_next text line e place within less is =
    let lt : position_or_len (λ b. b == 10) text < length text = omega arith in
    rw (take_rest text (e + 1), is, place) (lines_first text lt)

-- the first field has a byte
pub some_next : (line rest : List ℕ) (b e : ℕ) → b ≡ position_or_len (λ c. not (is_blank c)) line → b < length line
    → rest ≡ take (length line - b) (drop b line) → e ≡ position_or_len is_blank rest → 0 < length (take e rest)
some_next line rest b e begin lt rest_is end =
    let cut : rest ≡ drop b line = rest_is ∙ take_rest line b in
    let first : not (is_blank (get_or line b 0)) ≡ true = rw begin (passes_at_first (λ c. not (is_blank c)) line 0 (rw begin at lt)) in
    let some : 0 < position_or_len is_blank rest = begins-of (get_or line b 0) (drop (b + 1) line) rest first (cut ∙ drop_more line b 0 lt) in
    let most : position_or_len is_blank rest ≤ length rest = prefix_len-le-length (λ c. not (is_blank c)) rest in
    omega (arith, length-take-le e rest (omega arith))
