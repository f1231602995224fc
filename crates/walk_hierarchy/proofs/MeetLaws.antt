-- Where a search up and a search down meet.
use Rattle.std.proofs.Common.{◌≡◌, ◌∙◌, ℕ, ◌+◌, ◌<◌, ◌≤◌, List, length, slice_set, replicate, Option, Some, None, option_map, refl, sym, ap, subst, inl, inr, arith}
use Rattle.std.specs.Prelude.{Contains}
use Rattle.std.proofs.lemmas.Bool.{cases_eq, cases_lt}
use Rattle.move_model.specs.declared.network.NodeNo.{NodeNo}
use Rattle.move_model.specs.Streets.{Streets, HasDistance}
use Rattle.walk_queue.specs.Keys.{key_at, IsEmpty}
use Rattle.walk_hierarchy.specs.declared.labels.Label.{Label}
use Rattle.walk_hierarchy.specs.declared.settled.Settled.{Settled}
use Rattle.walk_hierarchy.specs.declared.meeting.Meeting.{Meeting}
use Rattle.walk_hierarchy.specs.declared.rows.Rows.{Rows}
use Rattle.walk_laws.specs.Sums.{IsSum, IsLeast, HasLeast}
use Rattle.walk_hierarchy.specs.Hierarchy.{Parts, IsNode, HasArc, IsDownSum, IsUpDownSum, GivesDistances, AreSettled}
use Rattle.walk_hierarchy.specs.Labels.{HasLabel, HasWithin, IsLeastFrom, AreSums, HasLeastLabel, AreListed}
use Rattle.walk_hierarchy.specs.Search.{HasHalf, Climbs, Waits, IsSearch, IsGoing, IsOnward}
use Rattle.walk_hierarchy.specs.Meeting.{IsArcBack, IsBetween, IsBest, HasBest, bound_of, IsMeeting, IsHeld, IsBoth, IsBetter}
use Rattle.walk_laws.proofs.SumLemmas.{IsSum-reverse}
use Rattle.walk_hierarchy.proofs.SearchLaws.{Some-same, entry_other, few_seconds, going_taken, search_lower, search_stopped, labelled_near}

-- the entries of least labels
pub settled_from : (arc : ℕ → ℕ → ℕ → Type 0) (from : ℕ) (labels : List (Option Label)) (entries : List Settled)
    → IsLeastFrom arc from labels → AreListed labels entries → AreSettled (IsSum arc from) entries
settled_from arc from labels entries is listed = record {
  least = λ v m. (
    λ has.
        let at = listed.only v m has in
        subst (λ (k : ℕ). IsLeast (IsSum arc from v) k) at.1.1 (is.least v at.0 at.1.0),
    λ least.
        let has = is.all v m least.attained in
        let same : has.x.seconds ≡ m = omega (arith, has.within, least.least has.x.seconds (is.least v has.x has.label).attained) in
        subst (λ (k : ℕ). Contains entries (record { node = record { 0 = v }; seconds = k })) same (listed.all v has.x has.label),
  );
  once = listed.once;
}

-- sums that are told otherwise
pub settled_along : (one two : ℕ → ℕ → Type 0) (entries : List Settled)
    → ((v m : ℕ) → one v m → two v m) → ((v m : ℕ) → two v m → one v m) → AreSettled one entries → AreSettled two entries
settled_along one two entries there back is = record {
  least = λ v m. (
    λ has. let old = (is.least v m).0 has in record { attained = there v m old.attained; least = λ n sum. old.least n (back v n sum) },
    λ least. (is.least v m).1 (record { attained = back v m least.attained; least = λ n sum. least.least n (there v n sum) }),
  );
  once = is.once;
}

pub settled_down : (h : Parts) (to : ℕ) (entries : List Settled) → AreSettled (IsSum (IsArcBack h.down) to) entries → AreSettled (λ v m. IsDownSum h v to m) entries
settled_down h to entries is =
    settled_along (IsSum (IsArcBack h.down) to) (λ v m. IsDownSum h v to m) entries
    (λ v m sum. IsSum-reverse (λ p q l arc. arc) sum) (λ v m sum. IsSum-reverse (λ p q l arc. arc) sum) is

-- the two searches by turns

pub both_swap : (rows other : Rows) (from to : ℕ) (best : Option Meeting) (labels : List (Option Label)) (queue : List (Option ℕ)) (others : List (Option Label)) (waiting : List (Option ℕ))
    → IsBoth rows other from to best labels queue others waiting → IsBoth other rows to from best others waiting labels queue
both_swap rows other from to best labels queue others waiting both = record {
  here = both.there;
  there = both.here;
  met = λ v x y has back. elim (both.met v y x back has) [
    | inl waits ↦ inr (inl waits)
    | inr (inl waits) ↦ inl waits
    | inr (inr le) ↦ inr (inr (omega (arith, le)))
  ];
  held = held_swap best both.held;
}
  where
    held_swap : (r : Option Meeting) → IsHeld (HasHalf rows) (HasHalf other) from to labels others r → IsHeld (HasHalf other) (HasHalf rows) to from others labels r
    held_swap None held = tt
    held_swap (Some m) held = record {
      l = held.k;
      k = held.l;
      there = held.back;
      back = held.there;
      total = omega (arith, held.total);
      within = held.within_back;
      within_back = held.within;
    }

pub both_first : (rows other : Rows) (from to : ℕ) (labels : List (Option Label)) (queue : List (Option ℕ)) (others : List (Option Label)) (waiting : List (Option ℕ))
    → IsSearch rows from 18446744073709551615 labels queue → IsSearch other to 18446744073709551615 others waiting
    → ((v : ℕ) (x : Label) → HasLabel labels v x → Waits queue v x.seconds) → IsBoth rows other from to None labels queue others waiting
both_first rows other from to labels queue others waiting here there waits = record {
  here = here;
  there = there;
  met = λ v x y has back. inl (waits v x has);
  held = tt;
}

module _ (rows other : Rows) (from to : ℕ) (best : Option Meeting) (labels : List (Option Label)) (queue : List (Option ℕ)) (others : List (Option Label)) (waiting : List (Option ℕ))
    (both : IsBoth rows other from to best labels queue others waiting) where
  pub both_stopped : (n : ℕ) → n ≡ length queue → ((v s : ℕ) → Waits queue v s → bound_of best ≤ s)
      → IsBoth rows other from to best labels (replicate n None) others waiting
  both_stopped n many far = record {
    here = search_stopped rows from (bound_of best) n labels queue many far both.here;
    there = both.there;
    met = λ v x y has back. elim (both.met v x y has back) [
      | inl waits ↦ let le = far v x.seconds waits in inr (inr (omega (arith, le)))
      | inr done ↦ inr done
    ];
    held = both.held;
  }

  held_falls : (after : List (Option Label)) (r : Option Meeting) → ((u m : ℕ) → HasWithin labels u m → HasWithin after u m)
      → IsHeld (HasHalf rows) (HasHalf other) from to labels others r → IsHeld (HasHalf rows) (HasHalf other) from to after others r
  held_falls after None falls held = tt
  held_falls after (Some m) falls held = record {
    l = held.l;
    k = held.k;
    there = held.there;
    back = held.back;
    total = held.total;
    within = falls m.node.0 held.l held.within;
    within_back = held.within_back;
  }

  -- the arcs of a vertex that waited are done
  pub both_left : (at s : ℕ) (result : Option Meeting) (after : List (Option Label)) (then_waits : List (Option ℕ)) → Waits queue at s
      → IsBetter others at s best result → IsOnward labels (slice_set queue at None) after then_waits
      → ((a bound : ℕ) → IsGoing rows a bound at s 0 labels (slice_set queue at None) → IsSearch rows a bound after then_waits)
      → IsBoth rows other from to result after then_waits others waiting
  both_left at s result after then_waits waits better onward left = record {
    here = left from (bound_of result)
        (going_taken rows from (bound_of result) at s labels queue (search_lower rows from (bound_of best) (bound_of result) labels queue better.lower both.here) waits);
    there = search_lower other to (bound_of best) (bound_of result) others waiting better.lower both.there;
    met = λ v x y has back. elim (onward.only v x has) [
      | inr now ↦ inl now
      | inl was ↦ elim (both.met v x y was.0 back) [
        | inr (inl still) ↦ inr (inl still)
        | inr (inr le) ↦ inr (inr (omega (arith, le, better.lower)))
        | inl waited ↦ elim (cases_eq v at) [
          | inl e ↦
              let same : x.seconds ≡ s = Some-same x.seconds s (sym (ap (key_at queue) (sym e) ∙ waited) ∙ waits) in
              let le : bound_of result ≤ s + y.seconds = better.here y (subst (λ (n : ℕ). HasLabel others n y) e back) in
              inr (inr (omega (arith, le, same)))
          | inr ne ↦ inl (was.1 x.seconds (entry_other queue at v None ne ∙ waited))
        ]
      ]
    ];
    held = elim better.is [
      | inl same ↦
          subst (λ (r : Option Meeting). IsHeld (HasHalf rows) (HasHalf other) from to after others r) (sym same) (held_falls after best onward.falls both.held)
      | inr new ↦
          let m : Meeting = record { seconds = s + new.0.seconds; node = record { 0 = at } } in
          let x = both.here.sound.waits at s waits in
          let now : IsMeeting (HasHalf rows) (HasHalf other) from to after others (record { seconds = s + new.0.seconds; node = record { 0 = at } }) = record {
            l = s;
            k = new.0.seconds;
            there = subst (λ (n : ℕ). IsSum (HasHalf rows) from at n) x.1.1 (both.here.sound.sums at x.0 x.1.0);
            back = both.there.sound.sums at new.0 new.1.0;
            total = refl;
            within = onward.falls at s (record { x = x.0; label = x.1.0; within = omega (arith, x.1.1) });
            within_back = record { x = new.0; label = new.1.0; within = omega arith };
          } in
          subst (λ (r : Option Meeting). IsHeld (HasHalf rows) (HasHalf other) from to after others r) (sym new.1.1) now
    ];
  }

  -- no vertex waits
  module _ (empty : IsEmpty queue) (others_empty : IsEmpty waiting) where
    no_less : (s : ℕ) → IsBetween (HasHalf rows) (HasHalf other) from to s → s < bound_of best → ⊥
    no_less s between near =
        let f = labelled_near rows from (bound_of best) labels queue both.here empty between.top between.l (omega (arith, between.total, near)) between.there in
        let g = labelled_near other to (bound_of best) others waiting both.there others_empty between.top between.k (omega (arith, between.total, near)) between.back in
        elim (both.met between.top f.x g.x f.label g.label) [
          | inl waits ↦ no_wait queue between.top f.x.seconds empty waits
          | inr (inl waits) ↦ no_wait waiting between.top g.x.seconds others_empty waits
          | inr (inr le) ↦ omega (arith, le, near, f.within, g.within, between.total)
        ]
      where
        no_wait : (keys : List (Option ℕ)) (v k : ℕ) → IsEmpty keys → Waits keys v k → ⊥
        no_wait keys v k idle waits = let e : None ≡ Some k = sym (idle v) ∙ waits in cc

    least_between : (s : ℕ) → IsBetween (HasHalf rows) (HasHalf other) from to s → bound_of best ≤ s
    least_between s between = elim (cases_lt s (bound_of best)) [
      | inl near ↦ absurd (no_less s between near)
      | inr le ↦ le
    ]

pub both_done : (rows other : Rows) (places : ℕ) (c : Climbs rows places) (d : Climbs other places) (from to : ℕ) (best : Option Meeting)
    (labels : List (Option Label)) (queue : List (Option ℕ)) (others : List (Option Label)) (waiting : List (Option ℕ))
    → IsBoth rows other from to best labels queue others waiting → IsEmpty queue → IsEmpty waiting
    → HasBest (HasHalf rows) (HasHalf other) from to labels others best
both_done rows other places c d from to None labels queue others waiting both empty others_empty = λ s between.
    omega (
      arith,
      least_between rows other from to None labels queue others waiting both empty others_empty s between,
      few_seconds rows places c between.there,
      few_seconds other places d between.back,
      between.total,
    )
both_done rows other places c d from to (Some m) labels queue others waiting both empty others_empty =
    let held = both.held in
    let x = held.within in
    let y = held.within_back in
    let shown : IsBetween (HasHalf rows) (HasHalf other) from to (x.x.seconds + y.x.seconds) = record {
      top = m.node.0;
      l = x.x.seconds;
      k = y.x.seconds;
      there = both.here.sound.sums m.node.0 x.x x.label;
      back = both.there.sound.sums m.node.0 y.x y.label;
      total = refl;
    } in
    let le : m.seconds ≤ x.x.seconds + y.x.seconds =
    least_between rows other from to (Some m) labels queue others waiting both empty others_empty (x.x.seconds + y.x.seconds) shown in
    record {
      meets = record { x = x.x; y = y.x; there = x.label; back = y.label; total = omega (arith, le, x.within, y.within, held.total) };
      least = record {
        attained = record { top = m.node.0; l = held.l; k = held.k; there = held.there; back = held.back; total = held.total };
        least = least_between rows other from to (Some m) labels queue others waiting both empty others_empty;
      };
    }

pub sums_of : (rows : Rows) (from bound : ℕ) (labels : List (Option Label)) (queue : List (Option ℕ)) → IsSearch rows from bound labels queue → AreSums (HasHalf rows) from labels
sums_of rows from bound labels queue search = record { sums = search.sound.sums; comes = search.sound.comes }

-- the best meeting is the least sum
module _ (h : Parts) (a b : NodeNo) (up down : List (Option Label)) where
  sum_of : (s : ℕ) → IsBetween (HasArc h.up) (IsArcBack h.down) a.0 b.0 s → IsUpDownSum h a b s
  sum_of s between = record {
    top = between.top;
    l = between.l;
    k = between.k;
    up = between.there;
    down = IsSum-reverse (λ p q l arc. arc) between.back;
    total = between.total;
  }

  between_of : (s : ℕ) → IsUpDownSum h a b s → IsBetween (HasArc h.up) (IsArcBack h.down) a.0 b.0 s
  between_of s sum = record {
    top = sum.top;
    l = sum.l;
    k = sum.k;
    there = sum.up;
    back = IsSum-reverse (λ p q l arc. arc) sum.down;
    total = sum.total;
  }

  pub least_sum : (best : Option Meeting) → HasBest (HasArc h.up) (IsArcBack h.down) a.0 b.0 up down best → HasLeast (IsUpDownSum h a b) (option_map (λ m. m.seconds) best)
  least_sum None is = λ s sum. is s (between_of s sum)
  least_sum (Some best) is = record {
    attained = sum_of best.seconds is.least.attained;
    least = λ s sum. is.least.least s (between_of s sum);
  }

-- and the labels at its vertex are least
module _ (one two : ℕ → ℕ → ℕ → Type 0) (a b : ℕ) (up down : List (Option Label)) (m : Meeting) (best : IsBest one two a b up down m) (there : AreSums one a up) (back : AreSums two b down) where
  pub least_there : HasLeastLabel one a up m.node.0
  least_there = record {
    x = best.meets.x;
    has = best.meets.there;
    least = record {
      attained = there.sums m.node.0 best.meets.x best.meets.there;
      least = λ n sum.
          let other : m.seconds ≤ n + best.meets.y.seconds = best.least.least (n + best.meets.y.seconds)
          (record { top = m.node.0; l = n; k = best.meets.y.seconds; there = sum; back = back.sums m.node.0 best.meets.y best.meets.back; total = refl }) in
          omega (arith, other, best.meets.total);
    };
  }

  pub least_back : HasLeastLabel two b down m.node.0
  least_back = record {
    x = best.meets.y;
    has = best.meets.back;
    least = record {
      attained = back.sums m.node.0 best.meets.y best.meets.back;
      least = λ n sum.
          let other : m.seconds ≤ best.meets.x.seconds + n = best.least.least (best.meets.x.seconds + n)
          (record { top = m.node.0; l = best.meets.x.seconds; k = n; there = there.sums m.node.0 best.meets.x best.meets.there; back = sum; total = refl }) in
          omega (arith, other, best.meets.total);
    };
  }

pub distance_from : (h : Parts) (a b : NodeNo) (r : Option ℕ) → IsNode h a → IsNode h b → HasLeast (IsUpDownSum h a b) r
    → (graph : Streets) → GivesDistances graph h → HasDistance graph a b r
distance_from h a b r a_is b_is least graph gives =
    (gives.distances a b r
    (record { from_one = a_is.from_one; to_nodes = omega (arith, a_is.to_nodes, gives.nodes) })
    (record { from_one = b_is.from_one; to_nodes = omega (arith, b_is.to_nodes, gives.nodes) })).0 least
