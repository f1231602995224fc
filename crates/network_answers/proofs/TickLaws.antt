-- The listed pairs of at most so many rides, and the searches that they may cost.
use Rattle.std.proofs.Common.{◌≡◌, ◌∙◌, ℕ, zero, suc, ◌+◌, ◌<◌, ◌≤◌, List, [], ◌∷◌, ◌++◌, length, refl, sym, ap, subst, inl, inr, arith, Option, Some, None}
use Rattle.std.specs.Prelude.{All, Contains}
use Rattle.std.proofs.lemmas.Bool.{cases_lt}
use Rattle.std.proofs.lemmas.List.Sums.{sum_by_push}
use Rattle.std.proofs.lemmas.List.Elements.{All-weaker, All-contains_itself, Contains-push, Contains-push_cases, Contains-append_left}
use Rattle.move_model.specs.declared.journey.Pair.{Pair}
use Rattle.raptor_rounds.specs.Answers.{Kept}
use Rattle.network_file.specs.declared.compiled.Compiled.{Compiled}
use Rattle.network_file.specs.Answers.{Sums, IsListedPair}
use Rattle.network_answers.specs.Gains.{gain, AreAnswers}
use Rattle.network_answers.specs.Found.{ArePairs, IsTicked}
use Rattle.network_answers.proofs.GainLaws.{listed_more, listed_less, foot_listed, foot_only, IsGained, gained, gained_listed, gained_only, none_listed}
use Rattle.network_answers.proofs.FoundLaws.{rising_push}

module _ (c : Compiled) (sums : Sums) (d : ℕ) where
  no_pair : sums.foot ≡ None → ArePairs c sums d 0 []
  no_pair none = record {
    exact = λ pair. (λ has. absurd (omega (arith, has.1)), λ is. let f = foot_only c sums d pair is in let e : None ≡ Some f.m = sym none ∙ f.foot_is in cc);
    rising = λ k e h. absurd (omega (arith, h));
  }

  foot_pair : (m : ℕ) → sums.foot ≡ Some m → ArePairs c sums d 0 (record { arrive = d + m; trips = 0 } ∷ [])
  foot_pair m foot =
      let pair : Pair = record { arrive = d + m; trips = 0 } in
      record {
        exact = λ other. (
          λ has. elim (Contains-push_cases [] pair other has) [
            | inl none ↦ absurd (omega (arith, none.1))
            | inr same ↦ subst (IsListedPair c sums d 0) same (foot_listed c sums d m foot)
          ],
          λ is.
              let f = foot_only c sums d other is in
              let e : Some m ≡ Some f.m = sym foot ∙ f.foot_is in
              let k : m ≡ f.m = cc in
              let same : pair ≡ other = ap (λ (k : ℕ). let p : Pair = record { arrive = d + k; trips = 0 } in p) k ∙ sym f.pair_is in
              subst (λ (p : Pair). Contains (pair ∷ []) p) same (Contains-push [] pair),
        );
        rising = λ k e h. absurd (omega (arith, h));
      }

  pub none_ticked : (before : ℕ) → sums.foot ≡ None → IsTicked c sums d 0 before before
  none_ticked before none = record { pairs = []; are = no_pair none; few = omega arith }

  pub foot_ticked : (m before after : ℕ) → sums.foot ≡ Some m → after ≤ before + 1 → IsTicked c sums d 0 before after
  foot_ticked m before after foot few =
      record { pairs = record { arrive = d + m; trips = 0 } ∷ []; are = foot_pair m foot; few = omega (arith, few) }

  module _ (j : ℕ) (pairs : List Pair) (are : ArePairs c sums d j pairs) where
    pairs_still : ((pair : Pair) → IsListedPair c sums d (j + 1) pair → pair.trips ≡ j + 1 → ⊥) → ArePairs c sums d (j + 1) pairs
    pairs_still none = record {
      exact = λ pair. (
        λ has. listed_more c sums d j pair ((are.exact pair).0 has),
        λ is. elim (cases_lt j pair.trips) [
          | inl more ↦ absurd (none pair is (omega (arith, more, is.within)))
          | inr few ↦ (are.exact pair).1 (listed_less c sums d j pair few is)
        ],
      );
      rising = are.rising;
    }

    pairs_more : (pair : Pair) → pair.trips ≡ j + 1 → IsListedPair c sums d (j + 1) pair
        → ((other : Pair) → IsListedPair c sums d (j + 1) other → other.trips ≡ j + 1 → other ≡ pair) → ArePairs c sums d (j + 1) (pairs ++ pair ∷ [])
    pairs_more pair many listed only =
        let fewer : All (λ (p : Pair). p.trips < pair.trips) pairs =
        All-weaker (Contains pairs) (λ (p : Pair). p.trips < pair.trips) (λ p has. omega (arith, ((are.exact p).0 has).within, many)) pairs (All-contains_itself pairs) in
        record {
          exact = λ other. (
            λ has. elim (Contains-push_cases pairs pair other has) [
              | inl before ↦ listed_more c sums d j other ((are.exact other).0 before)
              | inr same ↦ subst (IsListedPair c sums d (j + 1)) same listed
            ],
            λ is. elim (cases_lt j other.trips) [
              | inl more ↦
                  let same : pair ≡ other = sym (only other is (omega (arith, more, is.within))) in
                  subst (λ (p : Pair). Contains (pairs ++ pair ∷ []) p) same (Contains-push pairs pair)
              | inr few ↦ Contains-append_left pairs (pair ∷ []) other ((are.exact other).1 (listed_less c sums d j other few is))
            ],
          );
          rising = rising_push pairs pair are.rising fewer;
        }

  module _ (r : Kept) (answers : AreAnswers c sums d r) where
    pub skip_ticked : (j before after : ℕ) → j + 1 < length r.answers → gain d sums.foot r j ≡ None → IsTicked c sums d j before after
        → IsTicked c sums d (j + 1) before after
    skip_ticked j before after within none is =
        record { pairs = is.pairs; are = pairs_still j is.pairs is.are (none_listed c sums d r answers j within none); few = is.few }

    pub gain_ticked : (j e before after later : ℕ) → j + 1 < length r.answers → gain d sums.foot r j ≡ Some e → later ≤ after + (j + 2)
        → IsTicked c sums d j before after → IsTicked c sums d (j + 1) before later
    gain_ticked j e before after later within is_gain few is =
        let pair : Pair = record { arrive = e; trips = j + 1 } in
        let g : IsGained c sums d r answers j within e = gained c sums d r answers j within e is_gain in
        record {
          pairs = is.pairs ++ pair ∷ [];
          are = pairs_more j is.pairs is.are pair refl (gained_listed c sums d r answers j within e g) (gained_only c sums d r answers j within e g);
          few = omega (arith, few, is.few, sum_by_push (λ (p : Pair). p.trips + 1) is.pairs pair);
        }

    one_ticked : (j before after : ℕ) → j + 1 < length r.answers → (o : Option ℕ) → gain d sums.foot r j ≡ o → IsTicked c sums d j before after
        → IsTicked c sums d (j + 1) before after
    one_ticked j before after within None none is = skip_ticked j before after within none is
    one_ticked j before after within (Some e) is_gain is = gain_ticked j e before after after within is_gain (omega arith) is

    -- the pairs of more rides count, whether they are come to or not
    pub more_ticked : (n j limit before after : ℕ) → j + n ≡ limit → limit < length r.answers → IsTicked c sums d j before after
        → IsTicked c sums d limit before after
    more_ticked zero j limit before after e within is = let same : j ≡ limit = omega (arith, e) in subst (λ (k : ℕ). IsTicked c sums d k before after) same is
    more_ticked (suc n) j limit before after e within is =
        let below : j + 1 < length r.answers = omega (arith, e, within) in
        more_ticked n (j + 1) limit before after (omega (arith, e)) within
        (one_ticked j before after below (gain d sums.foot r j) refl is)
