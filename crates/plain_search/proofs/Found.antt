-- The findings of the levels that were looked at.
use Rattle.std.proofs.Common.{◌≡◌, ℕ, zero, suc, ◌+◌, ◌<◌, ◌≤◌, ◌↔◌, List, [], ◌∷◌, ◌++◌, length, get_or, map, refl, sym, ◌∙◌, ap, subst, inl, inr, arith, Some}
use Rattle.std.specs.Prelude.{All, Contains}
use Rattle.std.specs.List.{AllAdjacentBelow}
use Rattle.std.proofs.lemmas.Bool.{cases_lt}
use Rattle.std.proofs.lemmas.Option.{slice_get_within}
use Rattle.std.proofs.lemmas.List.{map-append, length_push, get_or_append_left, get_or-append-add}
use Rattle.std.proofs.lemmas.List.Elements.{All-push, Contains-append_cases, Contains-append_left, Contains-push}
use Rattle.move_model.specs.declared.network.Network.{Network}
use Rattle.move_model.specs.declared.network.NodeNo.{NodeNo}
use Rattle.move_model.specs.declared.journey.Pair.{Pair}
use Rattle.move_model.specs.declared.journey.Journey.{Journey}
use Rattle.move_model.specs.declared.journey.Finding.{Finding}
use Rattle.move_model.specs.Network.{IsNetwork}
use Rattle.move_model.specs.Found.{IsFound, IsPointAnswer}
use Rattle.plain_search.specs.declared.way.Way.{Way}
use Rattle.plain_search.specs.Row.{Ways, IsWayTo, HasWayBy}
use Rattle.plain_search.specs.Levels.{before_of, IsTable}
use Rattle.plain_search.specs.Answer.{IsLed}
use Rattle.plain_search.proofs.Rows.{same_default, Contains-one}
use Rattle.plain_search.proofs.JourneyLaws.{same_way}
use Rattle.plain_search.proofs.Pareto.{IsGain, pair_eq, trips_exact, gain_from_best, best_from_gain}

abbrev pairs_of : List Finding → List Pair
pairs_of found = map (λ finding. finding.pair) found

-- the findings are the gains with fewer than k rides
pub record FoundBelow (n : Network) (s : NodeNo) (d : ℕ) (t : NodeNo) (rows : List Ways) (k : ℕ) (found : List Finding) : Type 0 where
  pub gains : (pair : Pair) → Contains (map (λ finding. finding.pair) found) pair ↔ ((pair.trips < k) × IsGain rows t pair)
  pub below : All (λ finding. finding.pair.trips < k) found
  pub rising : AllAdjacentBelow (λ p q. p.trips < q.trips) (map (λ finding. finding.pair) found) (length (map (λ finding. finding.pair) found))
  pub real : All (IsFound n s d t) found

found_none : (n : Network) (s : NodeNo) (d : ℕ) (t : NodeNo) (rows : List Ways) → FoundBelow n s d t rows 0 []
found_none n s d t rows =
    record {
      gains = λ pair. (λ among. absurd (omega (arith, among.1)), λ gain. absurd (omega (arith, gain.0)));
      below = λ i x inside. absurd (omega (arith, inside));
      rising = λ i x inside. absurd (omega (arith, inside));
      real = λ i x inside. absurd (omega (arith, inside));
    }

pub found_start : (n : Network) (s : NodeNo) (d : ℕ) (t : NodeNo) (rows : List Ways) (k : ℕ) (found : List Finding) → k ≡ 0 → found ≡ []
    → FoundBelow n s d t rows k found
found_start n s d t rows k found first none =
    subst (λ j. FoundBelow n s d t rows j found) (sym first) (subst (λ fs. FoundBelow n s d t rows 0 fs) (sym none) (found_none n s d t rows))

-- a level that has no gain
pub found_pass : (n : Network) (s : NodeNo) (d : ℕ) (t : NodeNo) (rows : List Ways) (k : ℕ) (found : List Finding)
    → ((pair : Pair) → pair.trips ≡ k → IsGain rows t pair → ⊥) → FoundBelow n s d t rows k found → FoundBelow n s d t rows (k + 1) found
found_pass n s d t rows k found none below =
    record {
      gains = λ pair. (
        λ among. let gain = (below.gains pair).0 among in (omega (arith, gain.0), gain.1),
        λ gain. elim (cases_lt pair.trips k) [
          | inl l ↦ (below.gains pair).1 (l, gain.1)
          | inr h ↦ absurd (none pair (omega (arith, gain.0)) gain.1)
        ],
      );
      below = λ i x inside. omega (arith, below.below i x inside);
      rising = below.rising;
      real = below.real;
    }

-- no way, or none that is a gain
pub no_gain_way : (t : NodeNo) (rows : List Ways) (k : ℕ) → ((way : Way) → IsWayTo (get_or rows k []) t way → ⊥)
    → (pair : Pair) → pair.trips ≡ k → IsGain rows t pair → ⊥
no_gain_way t rows k none pair trips_are gain = none gain.way (subst (λ j. IsWayTo (get_or rows j []) t gain.way) trips_are gain.at)

pub no_gain_held : (t : NodeNo) (rows : List Ways) (k : ℕ) (way : Way) → IsWayTo (get_or rows k []) t way → HasWayBy (before_of rows k) t way.second
    → (pair : Pair) → pair.trips ≡ k → IsGain rows t pair → ⊥
no_gain_held t rows k way at held pair trips_are gain =
    let there : IsWayTo (get_or rows k []) t gain.way = subst (λ j. IsWayTo (get_or rows j []) t gain.way) trips_are gain.at in
    let same : way.second ≡ pair.arrive = ap (λ (w : Way). w.second) (same_way (get_or rows k []) t way gain.way at there) ∙ gain.arrives in
    gain.none_before (subst (λ j. HasWayBy (before_of rows j) t pair.arrive) (sym trips_are) (subst (λ m. HasWayBy (before_of rows k) t m) same held))

-- a way that is no gain
pub no_gain_below : (n : Network) (s : NodeNo) (d : ℕ) (t : NodeNo) (rows : List Ways) → IsTable n s d rows → (k : ℕ) (way : Way) → k < length rows
    → IsWayTo (get_or rows k []) t way → 0 < k → (t.0 < length (before_of rows k) → HasWayBy (before_of rows k) t way.second)
    → (pair : Pair) → pair.trips ≡ k → IsGain rows t pair → ⊥
no_gain_below n s d t rows table k way within at some held =
    no_gain_held t rows k way at (held (inside k within at some))
  where
    inside : (k : ℕ) → k < length rows → IsWayTo (get_or rows k []) t way → 0 < k → t.0 < length (before_of rows k)
    inside zero within at some = absurd (omega (arith, some))
    inside (suc j) within at some =
        omega (arith, slice_get_within (get_or rows (suc j) []) t.0 (Some way) at, (table.levels j (omega (arith, within))).one_each, (table.levels (suc j) within).one_each)

-- a pair of more rides
rising_push : (pairs : List Pair) (pair : Pair) → AllAdjacentBelow (λ p q. p.trips < q.trips) pairs (length pairs) → All (λ p. p.trips < pair.trips) pairs
    → AllAdjacentBelow (λ p q. p.trips < q.trips) (pairs ++ pair ∷ []) (length (pairs ++ pair ∷ []))
rising_push pairs pair rising fewer k d within =
    let inside : k < length pairs = omega (arith, within, length_push pairs pair) in
    subst (λ p. p.trips < (get_or (pairs ++ pair ∷ []) (k + 1) d).trips) (sym (get_or_append_left pairs (pair ∷ []) d k inside))
    (elim (cases_lt (k + 1) (length pairs)) [
      | inl l ↦ subst (λ p. (get_or pairs k d).trips < p.trips) (sym (get_or_append_left pairs (pair ∷ []) d (k + 1) l)) (rising k d l)
      | inr h ↦
          let e : length pairs + 0 ≡ k + 1 = omega (arith, h, inside) in
          subst (λ j. (get_or pairs k d).trips < (get_or (pairs ++ pair ∷ []) j d).trips) e
          (subst (λ p. (get_or pairs k d).trips < p.trips) (sym (get_or-append-add pairs (pair ∷ []) 0 d)) (fewer k d inside))
    ])

-- a level with a gain
module _ (n : Network) (ok : IsNetwork n) (s : NodeNo) (d : ℕ) (t : NodeNo) (rows : List Ways) (table : IsTable n s d rows)
    (k : ℕ) (found : List Finding) (way : Way) (journey : Journey)
    (within : k < length rows) (at : IsWayTo (get_or rows k []) t way) (none : HasWayBy (before_of rows k) t way.second → ⊥)
    (led : IsLed n s d t k way.second journey) (below : FoundBelow n s d t rows k found) where
  abbrev pair : Pair
  pair = record { arrive = way.second; trips = k }

  abbrev finding : Finding
  finding = record { pair = pair; journey = journey }

  gain : IsGain rows t pair
  gain = record { within = within; way = way; at = at; arrives = refl; none_before = none }

  is_found : IsFound n s d t finding
  is_found =
      record {
        departs = led.departs;
        arrives = led.arrives;
        rides =
            trips_exact n ok s d rows table t pair gain (record { arrive = way.second; trips = length journey.rides })
            (record { journey = journey; departs = led.departs; arrives = led.arrives; rides = refl }) (omega arith, led.few);
        least_walks = led.least_walks;
      }

  pub found_more : FoundBelow n s d t rows (k + 1) (found ++ finding ∷ [])
  found_more =
      let pairs_are : pairs_of (found ++ finding ∷ []) ≡ pairs_of found ++ pair ∷ [] = map-append (λ (f : Finding). f.pair) found (finding ∷ []) in
      record {
        gains = λ other. (
          λ among. elim (Contains-append_cases (pairs_of found) (pair ∷ []) other (subst (λ xs. Contains xs other) pairs_are among)) [
            | inl old ↦ let is = (below.gains other).0 old in (omega (arith, is.0), is.1)
            | inr new ↦ subst (λ p. (p.trips < k + 1) × IsGain rows t p) (Contains-one pair other new) (omega arith, gain)
          ],
          λ is. subst (λ xs. Contains xs other) (sym pairs_are) (elim (cases_lt other.trips k) [
            | inl l ↦ Contains-append_left (pairs_of found) (pair ∷ []) other ((below.gains other).1 (l, is.1))
            | inr h ↦
                let trips_are : other.trips ≡ k = omega (arith, is.0) in
                let there : IsWayTo (get_or rows k []) t is.1.way = subst (λ j. IsWayTo (get_or rows j []) t is.1.way) trips_are is.1.at in
                let arrives : way.second ≡ other.arrive = ap (λ (w : Way). w.second) (same_way (get_or rows k []) t way is.1.way at there) ∙ is.1.arrives in
                subst (λ p. Contains (pairs_of found ++ pair ∷ []) p) (pair_eq pair other arrives (sym trips_are)) (Contains-push (pairs_of found) pair)
          ]),
        );
        below = All-push (λ (f : Finding). f.pair.trips < k + 1) found finding (λ i x inside. omega (arith, below.below i x inside)) (omega arith);
        rising =
            subst (λ ps. AllAdjacentBelow (λ p q. p.trips < q.trips) ps (length ps)) (sym pairs_are)
            (rising_push (pairs_of found) pair below.rising (λ i d inside. ((below.gains (get_or (pairs_of found) i d)).0 (i, inside, same_default (pairs_of found) i (get_or (pairs_of found) i d) d inside)).0));
        real = All-push (IsFound n s d t) found finding below.real is_found;
      }

-- the same over what the calls gave
pub found_lent : (n : Network) → IsNetwork n → (s : NodeNo) (d : ℕ) (t : NodeNo) (rows : List Ways) → IsTable n s d rows
    → (k : ℕ) (found more : List Finding) (way : Way) (finding : Finding) → k < length rows → IsWayTo (get_or rows k []) t way
    → (HasWayBy (before_of rows k) t way.second → ⊥) → IsLed n s d t k way.second finding.journey
    → finding.pair ≡ record { arrive = way.second; trips = k } → more ≡ found ++ finding ∷ []
    → FoundBelow n s d t rows k found → FoundBelow n s d t rows (k + 1) more
found_lent n ok s d t rows table k found more way finding within at none led pair_is more_is below =
    let same : record { pair = record { arrive = way.second; trips = k }; journey = finding.journey } ≡ finding =
    λ i. record { pair = sym pair_is i; journey = finding.journey } in
    subst (λ fs. FoundBelow n s d t rows (k + 1) fs) (sym more_is)
    (subst (λ f. FoundBelow n s d t rows (k + 1) (found ++ f ∷ [])) same
    (found_more n ok s d t rows table k found way finding.journey within at none led below))

-- all levels
pub found_all : (n : Network) → IsNetwork n → (s : NodeNo) (d : ℕ) (t : NodeNo) (rows : List Ways) → IsTable n s d rows → (limit k : ℕ) (found : List Finding)
    → length rows ≡ limit + 1 → length rows ≤ k → FoundBelow n s d t rows k found → IsPointAnswer n s d t limit found
found_all n ok s d t rows table limit k found many all below =
    record {
      pareto = record {
        exact = λ pair. (
          λ among. best_from_gain n ok s d rows table t limit many pair ((below.gains pair).0 among).1,
          λ best. let gain = gain_from_best n ok s d rows table t limit many pair best in (below.gains pair).1 (omega (arith, gain.within, all), gain),
        );
        rising = below.rising;
      };
      real = below.real;
    }
