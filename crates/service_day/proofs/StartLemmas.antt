-- The starts of the copies of a row.
use Rattle.std.proofs.Common.{◌≡◌, ℕ, zero, suc, ◌+◌, ◌-◌, ◌/◌, ◌%◌, ◌<◌, ◌≤◌, inl, inr, true, false, cond, nat_lt, List, [], ◌∷◌, length, refl, sym, ap, ◌∙◌, arith}
use Rattle.std.specs.Prelude.{filter}
use Rattle.std.specs.Int.{div_ceil}
use Rattle.std.proofs.lemmas.Bool.Decides.{nat_tests}
use Rattle.std.proofs.lemmas.Bool.{cases_order}
use Rattle.std.proofs.Math.Nat.{add-div_right, add-mod_right, mod-eq_of_lt, div-eq_of_lt, zero-div, zero-mod}
use Rattle.service_day.specs.DayTrips.{seconds_from, starts_from}

no : (a b : ℕ) → b ≤ a → nat_lt a b ≡ false
no a b h = grind (arith, nat_tests)

yes : (a b : ℕ) → a < b → nat_lt a b ≡ true
yes a b h = grind (arith, nat_tests)

none_from : (headway second end turns : ℕ) → end ≤ second → filter (λ start. nat_lt start end) (seconds_from headway second turns) ≡ []
unfolding seconds_from
none_from headway second end zero h = refl
none_from headway second end (suc turns) h = rw (no second end h) (none_from headway (second + headway) end turns (omega arith))

-- a turn at or past the end adds no start
turn_more : (headway second end turns : ℕ) → 1 ≤ headway → end ≤ second + turns
    → filter (λ start. nat_lt start end) (seconds_from headway second (suc turns)) ≡ filter (λ start. nat_lt start end) (seconds_from headway second turns)
unfolding seconds_from
turn_more headway second end zero step h = rw (no second end (omega arith)) refl
turn_more headway second end (suc turns) step h =
    ap (λ (rest : List ℕ). cond (nat_lt second end) (second ∷ rest) rest) (turn_more headway (second + headway) end turns step (omega arith))

pub starts_none : (headway second end : ℕ) → end ≤ second → starts_from headway second end ≡ []
unfolding starts_from
starts_none headway second end h = none_from headway second end end h

pub starts_more : (headway second end : ℕ) → 1 ≤ headway → second < end → starts_from headway second end ≡ second ∷ starts_from headway (second + headway) end
unfolding starts_from seconds_from
starts_more headway second zero step h = absurd (omega arith)
starts_more headway second (suc end) step h =
    rw (yes second (suc end) h) (ap (λ (rest : List ℕ). second ∷ rest) (sym (turn_more headway (second + headway) (suc end) end step (omega arith))))

-- one part more than the parts of what is left
ceil_more : (x h : ℕ) → 1 ≤ h → 1 ≤ x → div_ceil x h ≡ suc (div_ceil (x - h) h)
ceil_more x h step some =
    elim (cases_order x h) [
      | inr (inl lt) ↦
          let left : x - h ≡ 0 = omega arith in
          let whole : x / h ≡ 0 = div-eq_of_lt lt in
          let part : x % h ≡ x = mod-eq_of_lt lt in
          rw (left, whole, part, zero-div h, zero-mod h) (omega arith)
      | inl same ↦ more (x - h) (omega arith)
      | inr (inr gt) ↦ more (x - h) (omega arith)
    ]
  where
    more : (y : ℕ) → y + h ≡ x → div_ceil x h ≡ suc (div_ceil y h)
    more y e = rw (← e, add-div_right y {k = h} step, add-mod_right y h) (omega arith)

pub ceil_none : (h : ℕ) → div_ceil 0 h ≡ 0
ceil_none h = rw (zero-div h, zero-mod h) refl

count : (turns headway second end : ℕ) → 1 ≤ headway → end - second ≤ turns → length (starts_from headway second end) ≡ div_ceil (end - second) headway
count zero headway second end step few =
    let over : end - second ≡ 0 = omega arith in
    rw (starts_none headway second end (omega arith), over) (sym (ceil_none headway))
count (suc turns) headway second end step few =
    elim (cases_order second end) [
      | inr (inl lt) ↦
          let left : end - (second + headway) ≡ end - second - headway = omega arith in
          ap length (starts_more headway second end step lt)
          ∙ ap suc (count turns headway (second + headway) end step (omega arith) ∙ ap (λ x. div_ceil x headway) left)
          ∙ sym (ceil_more (end - second) headway step (omega arith))
      | inl same ↦ let over : end - second ≡ 0 = omega arith in rw (starts_none headway second end (omega arith), over) (sym (ceil_none headway))
      | inr (inr gt) ↦ let over : end - second ≡ 0 = omega arith in rw (starts_none headway second end (omega arith), over) (sym (ceil_none headway))
    ]

pub starts_count : (headway second end : ℕ) → 1 ≤ headway → length (starts_from headway second end) ≡ div_ceil (end - second) headway
starts_count headway second end step = count (end - second) headway second end step (omega arith)
