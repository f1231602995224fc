-- Rows to which the seconds of twins are copied.
use Rattle.std.proofs.Common.{◌≡◌, ◌∙◌, ◌+◌, ◌<◌, ◌≤◌, ◌⊎◌, ℕ, zero, suc, List, Option, Some, None, length, get_or, set, refl, sym, ap, subst, inl, inr, arith}
use Rattle.std.specs.Prelude.{All, Contains, IfSome}
use Rattle.std.proofs.lemmas.Bool.{cases_eq, cases_lt}
use Rattle.std.proofs.lemmas.List.{get_or_past, get_or-set_same, get_or-set_other, length-set}
use Rattle.std.proofs.lemmas.List.Elements.{All-contains}
use Rattle.walk_laws.specs.Sums.{IsLeast, HasLeast, longest}
use Rattle.walk_hierarchy.specs.declared.settled.Settled.{Settled}
use Rattle.bucket_walks.specs.declared.bucket.Bucket.{Bucket}
use Rattle.bucket_walks.specs.Scan.{IsHeld, Lowers, HasSmall, IsOver}
use Rattle.bucket_walks.specs.Twins.{entry_of, IsTwin, AreTwins, AreCopied, kept_of}
use Rattle.bucket_walks.proofs.LowerLemmas.{least_of}
use Rattle.bucket_walks.proofs.TwinLemmas.{kept_has, kept_all}

-- a row that had no seconds
module _ (none : List (Option ℕ)) (is_none : (p : ℕ) → get_or none p None ≡ None) where
  not_held : (p m : ℕ) → IsHeld none p m → ⊥
  not_held p m held = let e : ◌≡◌ {A = Option ℕ} None (Some m) = sym (is_none p) ∙ held.is in cc

  -- sums are not too many seconds to be written
  pub lowers_small : (row : List (Option ℕ)) (settled : List Settled) (list : List Bucket) → All (λ there. there.seconds ≤ 4000000000000000000) settled
      → All (λ entry. entry.seconds ≤ longest) list → Lowers none row (IsOver settled list) → HasSmall row
  lowers_small row settled list few short lowers p m is = elim (cases_lt p (length none)) [
    | inr past ↦ let e : ◌≡◌ {A = Option ℕ} None (Some m) = sym (get_or_past row p None (omega (arith, past, lowers.many))) ∙ is in cc
    | inl low ↦
        let least : IsLeast (λ n. IsHeld none p n ⊎ IsOver settled list p n) m = subst (HasLeast (λ n. IsHeld none p n ⊎ IsOver settled list p n)) is (lowers.least p low) in
        elim least.attained [
          | inl held ↦ absurd (not_held p m held)
          | inr over ↦
              omega (
                arith,
                over.total,
                All-contains (λ (there : Settled). there.seconds ≤ 4000000000000000000) settled over.there few over.comes,
                All-contains (λ (entry : Bucket). entry.seconds ≤ longest) list over.entry short over.stands,
              )
        ]
  ]

-- what a stop is given by all entries, another with the same entries is given
over_twin : (settled : List Settled) (list : List Bucket) (q p m : ℕ) → ((v k : ℕ) → Contains list (entry_of v q k) → Contains list (entry_of v p k))
    → IsOver settled list q m → IsOver settled list p m
over_twin settled list q p m same over =
    let at : ◌≡◌ {A = Bucket} over.entry (entry_of over.entry.node.0 q over.entry.seconds) = ap (λ s. entry_of over.entry.node.0 s over.entry.seconds) over.stop_is in
    record {
      there = over.there;
      entry = entry_of over.entry.node.0 p over.entry.seconds;
      comes = over.comes;
      stands = same over.entry.node.0 over.entry.seconds (subst (Contains list) at over.stands);
      meets = over.meets;
      stop_is = refl;
      total = over.total;
    }

module _ (settled : List Settled) (list : List Bucket) (twins : List ℕ) (none mid new : List (Option ℕ)) (is_none : (p : ℕ) → get_or none p None ≡ None)
    (are : AreTwins list (length none) twins) (lowers : Lowers none mid (IsOver settled (kept_of twins list))) (copied : AreCopied twins mid new) where
  own_least : (p : ℕ) → p < length none → get_or twins p 0 ≡ p → HasLeast (λ m. IsHeld none p m ⊎ IsOver settled list p m) (get_or new p None)
  own_least p low own =
      subst (HasLeast (λ m. IsHeld none p m ⊎ IsOver settled list p m)) (sym (copied.own p (omega (arith, low, lowers.many)) own))
      (least_of (λ m. IsHeld none p m ⊎ IsOver settled (kept_of twins list) p m) (λ m. IsHeld none p m ⊎ IsOver settled list p m) (get_or mid p None)
      (λ m either. elim either [
        | inl held ↦ inl held
        | inr over ↦ inr (record {
          there = over.there;
          entry = over.entry;
          comes = over.comes;
          stands = (kept_has twins list over.entry over.stands).0;
          meets = over.meets;
          stop_is = over.stop_is;
          total = over.total;
        })
      ])
      (λ n either. (
        n,
        (
          elim either [
            | inl held ↦ inl held
            | inr over ↦ inr (record {
              there = over.there;
              entry = over.entry;
              comes = over.comes;
              stands = kept_all twins list over.entry over.stands (subst (λ (s : ℕ). get_or twins s 0 ≡ s) (sym over.stop_is) own);
              meets = over.meets;
              stop_is = over.stop_is;
              total = over.total;
            })
          ],
          omega arith,
        ),
      ))
      (lowers.least p low))

  twin_least : (p t : ℕ) → p < length none → get_or twins p 0 ≡ t → IsTwin list p t → HasLeast (λ m. IsHeld none t m ⊎ IsOver settled list t m) (get_or new t None)
      → HasLeast (λ m. IsHeld none p m ⊎ IsOver settled list p m) (get_or new p None)
  twin_least p t low is twin least =
      subst (HasLeast (λ m. IsHeld none p m ⊎ IsOver settled list p m))
      (sym (copied.twin p (omega (arith, low, lowers.many)) ∙ ap (λ (n : ℕ). get_or new n None) is))
      (least_of (λ m. IsHeld none t m ⊎ IsOver settled list t m) (λ m. IsHeld none p m ⊎ IsOver settled list p m) (get_or new t None)
      (λ m either. elim either [
        | inl held ↦ absurd (not_held none is_none t m held)
        | inr over ↦ inr (over_twin settled list t p m (λ v k. (twin.same v k).1) over)
      ])
      (λ n either. (
        n,
        (
          elim either [
            | inl held ↦ absurd (not_held none is_none p n held)
            | inr over ↦ inr (over_twin settled list p t n (λ v k. (twin.same v k).0) over)
          ],
          omega arith,
        ),
      ))
      least)

  all_least : (n p : ℕ) → p < n → p < length none → HasLeast (λ m. IsHeld none p m ⊎ IsOver settled list p m) (get_or new p None)
  all_least zero p lt low = absurd (omega arith)
  all_least (suc n) p lt low =
      let t = get_or twins p 0 in
      let twin : IsTwin list p t = are.each p low in
      elim (cases_lt t p) [
        | inl before ↦ twin_least p t low refl twin (all_least n t (omega arith) (omega arith))
        | inr own ↦ own_least p low (omega (arith, own, twin.no_later))
      ]

  pub lowers_copied : Lowers none new (IsOver settled list)
  lowers_copied = record {
    many = copied.many ∙ lowers.many;
    least = λ p low. all_least (suc p) p (omega arith) low;
  }

-- what a row has is not too many seconds to be written
pub small_at : (row : List (Option ℕ)) (p : ℕ) (r : Option ℕ) → HasSmall row → get_or row p None ≡ r → IfSome r (λ m. m ≤ 9000000000000000000)
small_at row p None small is = tt
small_at row p (Some m) small is = small p m is

-- one more stop with the seconds of its twin
pub record CopiedBelow (twins : List ℕ) (old row : List (Option ℕ)) (n : ℕ) : Type 0 where
  pub many : length row ≡ length old
  pub small : HasSmall row
  pub later : (q : ℕ) → n ≤ q → get_or row q None ≡ get_or old q None
  pub own : (q : ℕ) → q < n → get_or twins q 0 ≡ q → get_or row q None ≡ get_or old q None
  pub twin : (q : ℕ) → q < n → get_or row q None ≡ get_or row (get_or twins q 0) None

pub copied_none : (twins : List ℕ) (old : List (Option ℕ)) → HasSmall old → CopiedBelow twins old old 0
copied_none twins old small = record {
  many = refl;
  small = small;
  later = λ q le. refl;
  own = λ q lt is. refl;
  twin = λ q lt. absurd (omega arith);
}

module _ (twins : List ℕ) (old row : List (Option ℕ)) (n : ℕ) (low : n < length old) (no_later : (q : ℕ) → q < length old → get_or twins q 0 ≤ q)
    (so_far : CopiedBelow twins old row n) where
  abbrev next : List (Option ℕ)
  next = set row n (get_or row (get_or twins n 0) None)

  at_n : get_or next n None ≡ get_or row (get_or twins n 0) None
  at_n = get_or-set_same row n (get_or row (get_or twins n 0) None) None (omega (arith, low, so_far.many))

  other : (q : ℕ) → (q ≡ n → ⊥) → get_or next q None ≡ get_or row q None
  other q ne = get_or-set_other row n q (get_or row (get_or twins n 0) None) None ne

  small_next : (q m : ℕ) → get_or next q None ≡ Some m → m ≤ 9000000000000000000
  small_next q m is = elim (cases_eq q n) [
    | inl e ↦ so_far.small (get_or twins n 0) m (sym at_n ∙ ap (λ (i : ℕ). get_or next i None) (sym e) ∙ is)
    | inr ne ↦ so_far.small q m (sym (other q ne) ∙ is)
  ]

  own_next : (q : ℕ) → q < n + 1 → get_or twins q 0 ≡ q → get_or next q None ≡ get_or old q None
  own_next q lt own = elim (cases_eq q n) [
    | inl e ↦
        ap (λ (i : ℕ). get_or next i None) e ∙ at_n ∙ ap (λ (i : ℕ). get_or row (get_or twins i 0) None) (sym e) ∙ ap (λ (i : ℕ). get_or row i None) own
        ∙ so_far.later q (omega (arith, e))
    | inr ne ↦ other q ne ∙ so_far.own q (omega (arith, ne)) own
  ]

  -- its own twin has what it had, which is what it is given
  twin_at_n : get_or next n None ≡ get_or next (get_or twins n 0) None
  twin_at_n = elim (cases_eq (get_or twins n 0) n) [
    | inl e ↦ ap (λ (i : ℕ). get_or next i None) (sym e)
    | inr ne ↦ at_n ∙ sym (other (get_or twins n 0) ne)
  ]

  twin_next : (q : ℕ) → q < n + 1 → get_or next q None ≡ get_or next (get_or twins q 0) None
  twin_next q lt = elim (cases_lt q n) [
    | inl before ↦
        other q (λ e. omega (arith, e)) ∙ so_far.twin q before
        ∙ sym (other (get_or twins q 0) (λ e. omega (arith, e, no_later q (omega arith))))
    | inr le ↦
        let e : q ≡ n = omega arith in
        subst (λ (i : ℕ). get_or next i None ≡ get_or next (get_or twins i 0) None) (sym e) twin_at_n
  ]

  pub copied_more : CopiedBelow twins old (set row n (get_or row (get_or twins n 0) None)) (n + 1)
  copied_more = record {
    many = length-set row n (get_or row (get_or twins n 0) None) ∙ so_far.many;
    small = small_next;
    later = λ q le. other q (λ e. omega (arith, e)) ∙ so_far.later q (omega arith);
    own = own_next;
    twin = twin_next;
  }
