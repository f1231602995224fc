-- The findings so far, and one number of rides more.
use Rattle.std.proofs.Common.{◌≡◌, ◌∙◌, ℕ, ◌+◌, ◌<◌, ◌≤◌, ◌⊎◌, List, [], ◌∷◌, ◌++◌, length, get_or, refl, sym, ap, subst, inl, inr, arith, Option, Some, None}
use Rattle.std.specs.Prelude.{All, Contains}
use Rattle.std.specs.List.{AllAdjacentBelow}
use Rattle.std.proofs.lemmas.Bool.{cases_lt}
use Rattle.std.proofs.lemmas.List.{map-append, length-append, get_or_append_left, get_or_push}
use Rattle.std.proofs.lemmas.List.Elements.{All-nil, All-cons, All-push, All-weaker, All-get_or, Contains-push, Contains-append_left}
use Rattle.move_model.specs.declared.network.NodeNo.{NodeNo}
use Rattle.move_model.specs.declared.journey.Ride.{Ride}
use Rattle.move_model.specs.declared.journey.Pair.{Pair}
use Rattle.move_model.specs.declared.journey.Finding.{Finding}
use Rattle.walk_laws.specs.Sums.{HasLeast}
use Rattle.walk_hierarchy.specs.Hierarchy.{IsUpDownSum}
use Rattle.journey_build.specs.Built.{IsBuilt, IsBroken}
use Rattle.journey_build.specs.Built.IsBroken.{at_end}
use Rattle.compiled_laws.proofs.Others.{no_journey}
use Rattle.network_file.specs.declared.compiled.Compiled.{Compiled}
use Rattle.network_file.specs.Answers.{Sums, AreLeastSums, IsListedPair, AttainsByRides, Attains, IsMade, IsLeftOut, pairs_of}
use Rattle.network_answers.specs.Found.{IsFinding, Adds, IsFoundFor}
use Rattle.network_answers.specs.Found.Adds.{one, left_out}
use Rattle.network_answers.proofs.GainLaws.{listed_more, listed_less, foot_listed, foot_only}

-- a pair of more rides
pub rising_push : (pairs : List Pair) (pair : Pair) → AllAdjacentBelow (λ p q. p.trips < q.trips) pairs (length pairs) → All (λ p. p.trips < pair.trips) pairs
    → AllAdjacentBelow (λ p q. p.trips < q.trips) (pairs ++ pair ∷ []) (length (pairs ++ pair ∷ []))
rising_push pairs pair rises behind k d h = elim (cases_lt (k + 1) (length pairs)) [
  | inl low ↦
      subst (λ (a : Pair). a.trips < (get_or (pairs ++ pair ∷ []) (k + 1) d).trips) (sym (get_or_append_left pairs (pair ∷ []) d k (omega (arith, low))))
      (subst (λ (b : Pair). (get_or pairs k d).trips < b.trips) (sym (get_or_append_left pairs (pair ∷ []) d (k + 1) low)) (rises k d low))
  | inr high ↦
      let last : length pairs ≡ k + 1 = omega (arith, h, high, length-append pairs (pair ∷ [])) in
      subst (λ (a : Pair). a.trips < (get_or (pairs ++ pair ∷ []) (k + 1) d).trips) (sym (get_or_append_left pairs (pair ∷ []) d k (omega (arith, last))))
      (subst (λ (b : Pair). (get_or pairs k d).trips < b.trips) (sym (get_or_push pairs pair d (k + 1) last))
      (All-get_or (λ (p : Pair). p.trips < pair.trips) pairs k d (omega (arith, last)) behind))
]

module _ (c : Compiled) (sums : Sums) (s : NodeNo) (d : ℕ) (t : NodeNo) where
  nothing_rises : AllAdjacentBelow (λ (p q : Pair). p.trips < q.trips) [] 0
  nothing_rises k e h = absurd (omega (arith, h))

  -- whose rides are those of a listed journey, or none
  made_of : (rides : List Ride) (pair : Pair) (finding : Finding) → Attains c sums d rides pair → IsFinding c s d rides t pair finding → IsMade c sums s d t finding
  made_of rides pair finding attains is =
      let rides_are : rides ≡ finding.journey.rides = sym is.built.same_rides in
      record {
        attains = subst (λ (p : Pair). Attains c sums d finding.journey.rides p) (sym is.pair_is) (subst (λ (rs : List Ride). Attains c sums d rs pair) rides_are attains);
        built = subst (λ (rs : List Ride). IsBuilt c.network c.hierarchy s d rs t finding.journey) rides_are is.built;
      }

  -- on foot

  pub nothing_found : sums.foot ≡ None → IsFoundFor c sums s d t 0 []
  nothing_found none = record {
    best = All-nil (IsListedPair c sums d 0);
    made = All-nil (IsMade c sums s d t);
    whole = λ pair is. let f = foot_only c sums d pair is in let e : None ≡ Some f.m = sym none ∙ f.foot_is in cc;
    rising = nothing_rises;
  }

  foot_whole : (m : ℕ) (found : List Finding) → sums.foot ≡ Some m → Contains (pairs_of found) (record { arrive = d + m; trips = 0 })
      → (pair : Pair) → IsListedPair c sums d 0 pair → Contains (pairs_of found) pair
  foot_whole m found foot has pair is =
      let f = foot_only c sums d pair is in
      let e : Some m ≡ Some f.m = sym foot ∙ f.foot_is in
      let k : m ≡ f.m = cc in
      let here : Contains (pairs_of found) (record { arrive = d + f.m; trips = 0 }) =
      subst (λ (k : ℕ). let p : Pair = record { arrive = d + k; trips = 0 } in Contains (pairs_of found) p) k has in
      subst (λ (p : Pair). Contains (pairs_of found) p) (sym f.pair_is) here

  pub foot_found : (m : ℕ) (new : List Finding) → sums.foot ≡ Some m → AreLeastSums c s t sums
      → Adds c s d [] t (record { arrive = d + m; trips = 0 }) [] new → IsFoundFor c sums s d t 0 new
  foot_found m new foot least (one {finding = finding} is new_is) =
      let pair : Pair = record { arrive = d + m; trips = 0 } in
      let walk : Attains c sums d [] pair = inl (refl, record { seconds = m; foot_is = foot; arrive_is = refl; no_trip = refl }) in
      let has : Contains (finding.pair ∷ []) pair = subst (λ (p : Pair). Contains (p ∷ []) pair) (sym is.pair_is) (Contains-push [] pair) in
      subst (IsFoundFor c sums s d t 0) (sym new_is) (record {
        best =
            All-cons (IsListedPair c sums d 0) finding.pair [] (subst (IsListedPair c sums d 0) (sym is.pair_is) (foot_listed c sums d m foot))
            (All-nil (IsListedPair c sums d 0));
        made = All-cons (IsMade c sums s d t) finding [] (made_of [] pair finding walk is) (All-nil (IsMade c sums s d t));
        whole = λ other listed. inl (foot_whole m (finding ∷ []) foot has other listed);
        rising = λ k e h. absurd (omega (arith, h));
      })
  foot_found m new foot least (left_out broken new_is) =
      let is : HasLeast (IsUpDownSum c.hierarchy s t) (Some m) = subst (λ (o : Option ℕ). HasLeast (IsUpDownSum c.hierarchy s t) o) foot least.foot in
      absurd (nowhere broken m is.attained)
    where
      nowhere : IsBroken c.network c.hierarchy s d [] t → (k : ℕ) → IsUpDownSum c.hierarchy s t k → ⊥
      nowhere (at_end none) k is = none k is

  pub foot_found_as : (m arrive : ℕ) (rides : List Ride) (old new : List Finding) → sums.foot ≡ Some m → arrive ≡ d + m → rides ≡ [] → old ≡ []
      → AreLeastSums c s t sums → Adds c s d rides t (record { arrive = arrive; trips = 0 }) old new → IsFoundFor c sums s d t 0 new
  foot_found_as m arrive rides old new foot arrive_is no_ride nothing least adds =
      foot_found m new foot least
      (subst (λ (fs : List Finding). Adds c s d [] t (record { arrive = d + m; trips = 0 }) fs new) nothing
      (subst (λ (rs : List Ride). Adds c s d rs t (record { arrive = d + m; trips = 0 }) old new) no_ride
      (subst (λ (a : ℕ). Adds c s d rides t (record { arrive = a; trips = 0 }) old new) arrive_is adds)))

  -- one ride more

  module _ (j : ℕ) (old : List Finding) (found : IsFoundFor c sums s d t j old) where
    best_still : All (IsListedPair c sums d (j + 1)) (pairs_of old)
    best_still = All-weaker (IsListedPair c sums d j) (IsListedPair c sums d (j + 1)) (listed_more c sums d j) (pairs_of old) found.best

    whole_still : (pair : Pair) → pair.trips ≤ j → IsListedPair c sums d (j + 1) pair → Contains (pairs_of old) pair ⊎ IsLeftOut c sums s d t pair
    whole_still pair few is = found.whole pair (listed_less c sums d j pair few is)

    -- no pair has one ride more
    pub found_still : ((pair : Pair) → IsListedPair c sums d (j + 1) pair → pair.trips ≡ j + 1 → ⊥) → IsFoundFor c sums s d t (j + 1) old
    found_still none = record {
      best = best_still;
      made = found.made;
      whole = λ pair is. elim (cases_lt j pair.trips) [
        | inl more ↦ absurd (none pair is (omega (arith, more, is.within)))
        | inr few ↦ whole_still pair few is
      ];
      rising = found.rising;
    }

    -- this pair and none other has one ride more
    module _ (pair : Pair) (many : pair.trips ≡ j + 1) (listed : IsListedPair c sums d (j + 1) pair)
        (only : (other : Pair) → IsListedPair c sums d (j + 1) other → other.trips ≡ j + 1 → other ≡ pair)
        (rides : List Ride) (attains : AttainsByRides c sums d rides pair) where
      pub found_more : (new : List Finding) → Adds c s d rides t pair old new → IsFoundFor c sums s d t (j + 1) new
      found_more new (one {finding = finding} is new_is) =
          let pairs_are : pairs_of (old ++ finding ∷ []) ≡ pairs_of old ++ finding.pair ∷ [] = map-append (λ (f : Finding). f.pair) old (finding ∷ []) in
          let here : IsListedPair c sums d (j + 1) finding.pair = subst (IsListedPair c sums d (j + 1)) (sym is.pair_is) listed in
          let fewer : All (λ (p : Pair). p.trips < finding.pair.trips) (pairs_of old) =
          All-weaker (IsListedPair c sums d j) (λ (p : Pair). p.trips < finding.pair.trips)
          (λ p is_listed. omega (arith, is_listed.within, many, ap (λ (q : Pair). q.trips) is.pair_is)) (pairs_of old) found.best in
          subst (IsFoundFor c sums s d t (j + 1)) (sym new_is) (record {
            best = subst (All (IsListedPair c sums d (j + 1))) (sym pairs_are) (All-push (IsListedPair c sums d (j + 1)) (pairs_of old) finding.pair best_still here);
            made = All-push (IsMade c sums s d t) old finding found.made (made_of rides pair finding (inr attains) is);
            whole = λ other is_listed. elim (cases_lt j other.trips) [
              | inl more ↦
                  let same : other ≡ pair = only other is_listed (omega (arith, more, is_listed.within)) in
                  inl (subst (λ (ps : List Pair). Contains ps other) (sym pairs_are)
                  (subst (λ (p : Pair). Contains (pairs_of old ++ finding.pair ∷ []) p) (is.pair_is ∙ sym same) (Contains-push (pairs_of old) finding.pair)))
              | inr few ↦ elim (whole_still other few is_listed) [
                | inl has ↦ inl (subst (λ (ps : List Pair). Contains ps other) (sym pairs_are) (Contains-append_left (pairs_of old) (finding.pair ∷ []) other has))
                | inr out ↦ inr out
              ]
            ];
            rising =
                subst (λ (ps : List Pair). AllAdjacentBelow (λ (p q : Pair). p.trips < q.trips) ps (length ps)) (sym pairs_are)
                (rising_push (pairs_of old) finding.pair found.rising fewer);
          })
      found_more new (left_out broken new_is) =
          subst (IsFoundFor c sums s d t (j + 1)) (sym new_is) (record {
            best = best_still;
            made = found.made;
            whole = λ other is_listed. elim (cases_lt j other.trips) [
              | inl more ↦
                  let same : other ≡ pair = only other is_listed (omega (arith, more, is_listed.within)) in
                  inr (subst (λ (p : Pair). IsLeftOut c sums s d t p) (sym same)
                  (record { rides = rides; attains = attains; none = no_journey c s d rides t broken }))
              | inr few ↦ whole_still other few is_listed
            ];
            rising = found.rising;
          })
