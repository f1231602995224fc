-- What a gain says of listed journeys, and which pairs are listed with one ride more.
use Rattle.std.proofs.Common.{◌≡◌, ◌∙◌, ℕ, ◌+◌, ◌<◌, ◌≤◌, ◌⊎◌, min, Bool, true, false, List, length, refl, sym, ap, subst, inl, inr, arith, ltb-true, ltb-false, Option, Some, None}
use Rattle.std.specs.Prelude.{nat_lt, if◌then◌else◌}
use Rattle.std.proofs.lemmas.Bool.{cases_lt}
use Rattle.move_model.specs.declared.network.Network.{Network}
use Rattle.move_model.specs.declared.journey.Ride.{Ride}
use Rattle.move_model.specs.declared.journey.Pair.{Pair}
use Rattle.move_model.specs.declared.journey.Shortcut.{Shortcut}
use Rattle.move_model.specs.Listed.{IsListed, HasBest}
use Rattle.move_model.specs.Listed.IsListed.{begins}
use Rattle.move_model.specs.Range.{HasListedPair}
use Rattle.pareto_laws.proofs.ParetoByRides.{pair_eq}
use Rattle.raptor_rounds.specs.Answers.{Arrival, Kept, answer_at, IsAnswer}
use Rattle.network_file.specs.declared.compiled.Compiled.{Compiled}
use Rattle.network_file.specs.Answers.{Sums, IsListedPair}
use Rattle.network_answers.specs.Gains.{lesser, beats, on_foot, second_of, gain, AreAnswers}

-- optional seconds

record IsFrom (o : Option ℕ) (y : ℕ) : Type 0 where
  z : ℕ
  is : o ≡ Some z
  no_later : z ≤ y

lesser_left : (a b : Option ℕ) (y : ℕ) → a ≡ Some y → IsFrom (lesser a b) y
lesser_left None b y e = cc
lesser_left (Some l) None y e = let s : l ≡ y = cc in record { z = l; is = refl; no_later = omega (arith, s) }
lesser_left (Some l) (Some m) y e = let s : l ≡ y = cc in record { z = min l m; is = refl; no_later = omega (arith, s) }

lesser_right : (a b : Option ℕ) (y : ℕ) → b ≡ Some y → IsFrom (lesser a b) y
lesser_right None b y e = record { z = y; is = e; no_later = omega arith }
lesser_right (Some l) None y e = cc
lesser_right (Some l) (Some m) y e = let s : m ≡ y = cc in record { z = min l m; is = refl; no_later = omega (arith, s) }

lesser_is : (a b : Option ℕ) (z : ℕ) → lesser a b ≡ Some z → (a ≡ Some z) ⊎ (b ≡ Some z)
lesser_is None b z e = inr e
lesser_is (Some l) None z e = inl e
lesser_is (Some l) (Some m) z e =
    let s : min l m ≡ z = cc in
    elim (cases_lt l m) [
      | inl low ↦ let q : l ≡ z = omega (arith, s, low) in inl (ap (λ (k : ℕ). Some k) q)
      | inr high ↦ let q : m ≡ z = omega (arith, s, high) in inr (ap (λ (k : ℕ). Some k) q)
    ]

record Beats (a b : Option ℕ) (e : ℕ) : Type 0 where
  is : a ≡ Some e
  less : (y : ℕ) → b ≡ Some y → e < y

beats_tested : (l m e : ℕ) (t : Bool) → nat_lt l m ≡ t → (if t then Some l else None) ≡ Some e → Beats (Some l) (Some m) e
beats_tested l m e true low is =
    let s : l ≡ e = cc in
    let lt : l < m = ltb-true l m low in
    record { is = is; less = λ y same. let q : m ≡ y = cc in omega (arith, s, q, lt) }
beats_tested l m e false high is = cc

beats_is : (a b : Option ℕ) (e : ℕ) → beats a b ≡ Some e → Beats a b e
beats_is None b e is = cc
beats_is (Some l) None e is = record { is = is; less = λ y none. cc }
beats_is (Some l) (Some m) e is = beats_tested l m e (nat_lt l m) refl is

not_tested : (l m x : ℕ) (t : Bool) → nat_lt l m ≡ t → (if t then Some l else None) ≡ None → Some l ≡ Some x → IsFrom (Some m) x
not_tested l m x true low is e = cc
not_tested l m x false high is e =
    let s : l ≡ x = cc in
    let le : m ≤ l = ltb-false l m high in
    record { z = m; is = refl; no_later = omega (arith, s, le) }

beats_not : (a b : Option ℕ) (x : ℕ) → beats a b ≡ None → a ≡ Some x → IsFrom b x
beats_not None b x is e = cc
beats_not (Some l) None x is e = cc
beats_not (Some l) (Some m) x is e = not_tested l m x (nat_lt l m) refl is e

pub record IsOnFoot (d : ℕ) (foot : Option ℕ) (y : ℕ) : Type 0 where
  pub m : ℕ
  pub foot_is : foot ≡ Some m
  pub arrive_is : y ≡ d + m

pub no_foot_from : (d : ℕ) (foot : Option ℕ) → on_foot d foot ≡ None → foot ≡ None
no_foot_from d None is = refl
no_foot_from d (Some m) is = cc

pub none_from : (o : Option ℕ) → ((k : ℕ) → o ≡ Some k → ⊥) → o ≡ None
none_from None not = refl
none_from (Some k) not = absurd (not k refl)

pub foot_from : (d : ℕ) (foot : Option ℕ) (y : ℕ) → on_foot d foot ≡ Some y → IsOnFoot d foot y
foot_from d None y is = cc
foot_from d (Some m) y is = let s : d + m ≡ y = cc in record { m = m; foot_is = refl; arrive_is = sym s }

-- the answers of rounds

module _ (n : Network) (first last : List (Option ℕ)) (list : List Shortcut) (d : ℕ) where
  known : (k : ℕ) (o : Option ℕ) → HasBest n first last list d k o → (rides : List Ride) (other : ℕ) → length rides ≤ k
      → IsListed n first last list d rides other → IsFrom o other
  known k None none rides other few is = absurd (none rides other few is)
  known k (Some y) best rides other few is = record { z = y; is = refl; no_later = best.1 rides other few is }

  pub record IsAttained (k e : ℕ) (answer : Option Arrival) : Type 0 where
    pub rides : List Ride
    pub answer_is : answer ≡ Some (record { second = e; rides = rides })
    pub listed : IsListed n first last list d rides e
    pub few : length rides ≤ k

  attained : (k e : ℕ) (answer : Option Arrival) → IsAnswer n first last list d k answer → second_of answer ≡ Some e → IsAttained k e answer
  attained k e None is same = cc
  attained k e (Some x) is same =
      let s : x.second ≡ e = cc in
      record {
        rides = x.rides;
        answer_is = ap (λ (m : ℕ). let a : Arrival = record { second = m; rides = x.rides } in Some a) s;
        listed = subst (λ (m : ℕ). IsListed n first last list d x.rides m) s is.attains;
        few = is.few;
      }

  some_ride : {rides : List Ride} {e : ℕ} → IsListed n first last list d rides e → 1 ≤ length rides
  some_ride (begins entry is_ride in_time on) = omega arith

-- listed pairs

module _ (c : Compiled) (sums : Sums) (d : ℕ) where
  pub listed_more : (j : ℕ) (pair : Pair) → IsListedPair c sums d j pair → IsListedPair c sums d (j + 1) pair
  listed_more j pair is = record {
    within = omega (arith, is.within);
    attained = is.attained;
    best = λ other few has no_worse. is.best other (omega (arith, no_worse.1, is.within)) has no_worse;
  }

  pub listed_less : (j : ℕ) (pair : Pair) → pair.trips ≤ j → IsListedPair c sums d (j + 1) pair → IsListedPair c sums d j pair
  listed_less j pair few is = record {
    within = few;
    attained = is.attained;
    best = λ other within has no_worse. is.best other (omega (arith, within)) has no_worse;
  }

  pub foot_listed : (m : ℕ) → sums.foot ≡ Some m → IsListedPair c sums d 0 (record { arrive = d + m; trips = 0 })
  foot_listed m foot = record {
    within = omega arith;
    attained = inl (record { seconds = m; foot_is = foot; arrive_is = refl; no_trip = refl });
    best = λ other few has no_worse. elim has [
      | inl walk ↦
          let s : m ≡ walk.seconds = (let e : Some m ≡ Some walk.seconds = sym foot ∙ walk.foot_is in cc) in
          pair_eq other (record { arrive = d + m; trips = 0 }) (omega (arith, walk.arrive_is, s)) walk.no_trip
      | inr by ↦ absurd (omega (arith, some_ride c.network sums.first sums.last c.shortcuts d by.listed, by.many, few))
    ];
  }

  pub record IsFootPair (pair : Pair) : Type 0 where
    pub m : ℕ
    pub foot_is : sums.foot ≡ Some m
    pub pair_is : pair ≡ record { arrive = d + m; trips = 0 }

  pub foot_only : (pair : Pair) → IsListedPair c sums d 0 pair → IsFootPair pair
  foot_only pair is = elim is.attained [
    | inl walk ↦ record {
      m = walk.seconds;
      foot_is = walk.foot_is;
      pair_is = pair_eq pair (record { arrive = d + walk.seconds; trips = 0 }) walk.arrive_is walk.no_trip;
    }
    | inr by ↦ absurd (omega (arith, some_ride c.network sums.first sums.last c.shortcuts d by.listed, by.many, is.within))
  ]

  module _ (r : Kept) (are : AreAnswers c sums d r) (j : ℕ) (within : j + 1 < length r.answers) where
    abbrev Listed : List Ride → ℕ → Type 0
    Listed rides e = IsListed c.network sums.first sums.last c.shortcuts d rides e

    abbrev Attained : ℕ → ℕ → Option Arrival → Type 0
    Attained k e answer = IsAttained c.network sums.first sums.last c.shortcuts d k e answer

    here : IsAnswer c.network sums.first sums.last c.shortcuts d (j + 1) (answer_at r (j + 1))
    here = are.each (j + 1) within

    behind : IsAnswer c.network sums.first sums.last c.shortcuts d j (answer_at r j)
    behind = are.each j (omega (arith, within))

    pub record IsGained (e : ℕ) : Type 0 where
      pub at : Attained (j + 1) e (answer_at r (j + 1))
      pub exactly : length at.rides ≡ j + 1
      pub no_foot : (m : ℕ) → sums.foot ≡ Some m → e < d + m
      pub fewer : (rides : List Ride) (other : ℕ) → length rides ≤ j → Listed rides other → e < other
      pub least : (rides : List Ride) (other : ℕ) → length rides ≤ j + 1 → Listed rides other → e ≤ other

    fewer_later : (e : ℕ) → Beats (second_of (answer_at r (j + 1))) (lesser (on_foot d sums.foot) (second_of (answer_at r j))) e
        → (rides : List Ride) (other : ℕ) → length rides ≤ j → Listed rides other → e < other
    fewer_later e beat rides other few listed =
        let k = known c.network sums.first sums.last c.shortcuts d j (second_of (answer_at r j)) behind.best rides other few listed in
        let l = lesser_right (on_foot d sums.foot) (second_of (answer_at r j)) k.z k.is in
        omega (arith, beat.less l.z l.is, l.no_later, k.no_later)

    pub gained : (e : ℕ) → gain d sums.foot r j ≡ Some e → IsGained e
    gained e is =
        let beat = beats_is (second_of (answer_at r (j + 1))) (lesser (on_foot d sums.foot) (second_of (answer_at r j))) e is in
        let at = attained c.network sums.first sums.last c.shortcuts d (j + 1) e (answer_at r (j + 1)) here beat.is in
        record {
          at = at;
          exactly = elim (cases_lt j (length at.rides)) [
            | inl more ↦ omega (arith, more, at.few)
            | inr few ↦ absurd (omega (arith, fewer_later e beat at.rides e few at.listed))
          ];
          no_foot = λ m foot.
              let l = lesser_left (on_foot d sums.foot) (second_of (answer_at r j)) (d + m) (ap (λ (o : Option ℕ). on_foot d o) foot) in
              omega (arith, beat.less l.z l.is, l.no_later);
          fewer = fewer_later e beat;
          least = λ rides other few listed.
              let k = known c.network sums.first sums.last c.shortcuts d (j + 1) (second_of (answer_at r (j + 1))) here.best rides other few listed in
              let e2 : Some k.z ≡ Some e = sym k.is ∙ beat.is in
              let s : k.z ≡ e = cc in
              omega (arith, s, k.no_later);
        }

    gained_pair : (e : ℕ) → IsGained e → HasListedPair c.network sums.first sums.last c.shortcuts sums.foot d (record { arrive = e; trips = j + 1 })
    gained_pair e g = inr (record { rides = g.at.rides; listed = g.at.listed; many = g.exactly })

    pub gained_listed : (e : ℕ) → IsGained e → IsListedPair c sums d (j + 1) (record { arrive = e; trips = j + 1 })
    gained_listed e g = record {
      within = omega arith;
      attained = gained_pair e g;
      best = λ other few has no_worse. elim has [
        | inl walk ↦ absurd (omega (arith, g.no_foot walk.seconds walk.foot_is, walk.arrive_is, no_worse.0))
        | inr by ↦ elim (cases_lt j (length by.rides)) [
          | inl more ↦
              pair_eq other (record { arrive = e; trips = j + 1 })
              (omega (arith, g.least by.rides other.arrive (omega (arith, by.many, few)) by.listed, no_worse.0))
              (omega (arith, by.many, more, few))
          | inr less ↦ absurd (omega (arith, g.fewer by.rides other.arrive less by.listed, no_worse.0))
        ]
      ];
    }

    pub gained_only : (e : ℕ) → IsGained e → (pair : Pair) → IsListedPair c sums d (j + 1) pair → pair.trips ≡ j + 1
        → pair ≡ record { arrive = e; trips = j + 1 }
    gained_only e g pair is many = elim is.attained [
      | inl walk ↦ absurd (omega (arith, walk.no_trip, many))
      | inr by ↦
          sym
          (is.best (record { arrive = e; trips = j + 1 }) (omega arith) (gained_pair e g)
          (g.least by.rides pair.arrive (omega (arith, by.many, many)) by.listed, omega (arith, many)))
    ]

    other_worse : (y k : ℕ) → k ≤ j → HasListedPair c.network sums.first sums.last c.shortcuts sums.foot d (record { arrive = y; trips = k })
        → (pair : Pair) → y ≤ pair.arrive → IsListedPair c sums d (j + 1) pair → pair.trips ≡ j + 1 → ⊥
    other_worse y k few has pair no_later is many =
        let e = is.best (record { arrive = y; trips = k }) (omega (arith, few)) has (no_later, omega (arith, few, many)) in
        omega (arith, ap (λ (p : Pair). p.trips) e, few, many)

    pub none_listed : gain d sums.foot r j ≡ None → (pair : Pair) → IsListedPair c sums d (j + 1) pair → pair.trips ≡ j + 1 → ⊥
    none_listed none pair is many = elim is.attained [
      | inl walk ↦ omega (arith, walk.no_trip, many)
      | inr by ↦
          let k = known c.network sums.first sums.last c.shortcuts d (j + 1) (second_of (answer_at r (j + 1))) here.best by.rides pair.arrive
          (omega (arith, by.many, many)) by.listed in
          let b = beats_not (second_of (answer_at r (j + 1))) (lesser (on_foot d sums.foot) (second_of (answer_at r j))) k.z none k.is in
          elim (lesser_is (on_foot d sums.foot) (second_of (answer_at r j)) b.z b.is) [
            | inl walks ↦
                let w = foot_from d sums.foot b.z walks in
                other_worse b.z 0 (omega arith) (inl (record { seconds = w.m; foot_is = w.foot_is; arrive_is = w.arrive_is; no_trip = refl })) pair
                (omega (arith, b.no_later, k.no_later)) is many
            | inr rides ↦
                let at = attained c.network sums.first sums.last c.shortcuts d j b.z (answer_at r j) behind rides in
                other_worse b.z (length at.rides) at.few (inr (record { rides = at.rides; listed = at.listed; many = refl })) pair
                (omega (arith, b.no_later, k.no_later)) is many
          ]
    ]
