-- A vertex contracted in the right way keeps every distance.
use Rattle.std.proofs.Common.{◌≡◌, ◌≢◌, ℕ, ◌+◌, ◌<◌, ◌≤◌, ◌⊎◌, refl, sym, ap, subst, inl, inr, arith, ◌∙◌}
use Rattle.std.proofs.lemmas.Bool.{cases_eq}
use Rattle.move_model.specs.Streets.{Streets}
use Rattle.walk_laws.specs.Sums.{IsSum, IsStreet, View, HasArc, last_rank, longest, rank_of, IsLeft, IsUp, IsDown, IsRest, Leads, HasWithin, Keeps, Bridges, IsContracted}
use Rattle.walk_laws.specs.Sums.IsSum.{none, more}
use Rattle.walk_laws.proofs.SumLemmas.{IsSum-append, IsSum-one, IsSum-map, IsWithin}

module _ (graph : Streets) (old new : View) (m : ℕ) (keeps : Keeps graph old) (step : IsContracted graph old new m) where
  -- over what is left, and down
  record Over (g h seconds : ℕ) : Type 0 where
    bend : ℕ
    n : ℕ
    r : ℕ
    over : IsSum (IsRest new) g bend n
    down : IsSum (IsDown new) bend h r
    within : n + r ≤ seconds

  -- out of m and then on
  record FromHere (h seconds : ℕ) : Type 0 where
    next : ℕ
    l : ℕ
    k : ℕ
    next_left : IsLeft new next
    first : HasArc old.out m next l
    rest : Over next h k
    within : l + k ≤ seconds

  still_left : (v : ℕ) → v ≢ m → IsLeft old v → IsLeft new v
  still_left v ne left = record { is_left = step.others v ne ∙ left.is_left }

  Over-more : {g h k n : ℕ} → Over g h k → k ≤ n → Over g h n
  Over-more {g} {h} {k} {n} o le =
      record { bend = o.bend; n = o.n; r = o.r; over = o.over; down = o.down; within = omega (arith, o.within) }

  rest_stays : (p q l : ℕ) → IsLeft new p → IsLeft new q → HasArc old.out p q l → IsWithin (IsRest new) p q l
  rest_stays p q l left right arc =
      let w : HasWithin new.out p q l = step.out_stays p q l (omega (arith, left.is_left, right.is_left)) arc in
      record { l = w.l; sum = IsSum-one (record { from_left = left; to_left = right; stands = w.stands }); within = w.within }

  -- an arc from a vertex that is left to m leads down
  down_to : (g l : ℕ) → IsLeft new g → IsRest old g m l → IsWithin (IsDown new) g m l
  down_to g l left arc =
      let here : HasWithin old.into m g l = keeps.mirrored g m l arc in
      let w : HasWithin new.into m g here.l = step.into_stays g m here.l (omega (arith, left.is_left, step.gone)) here.stands in
      record {
        l = w.l;
        sum = IsSum-one (record { falls = omega (arith, left.is_left, step.gone); stands = w.stands });
        within = omega (arith, w.within, here.within);
      }

  up_from : (q l : ℕ) → IsLeft new q → HasArc old.out m q l → IsWithin (IsUp new) m q l
  up_from q l left arc =
      let w : HasWithin new.out m q l = step.out_stays m q l (omega (arith, left.is_left, step.gone)) arc in
      record {
        l = w.l;
        sum = IsSum-one (record { rises = omega (arith, left.is_left, step.gone); stands = w.stands });
        within = w.within;
      }

  past : (g h l k : ℕ) → l + k ≤ longest → IsLeft new g → IsRest old g m l → FromHere h k → Over g h (l + k)
  past g h l k short left arc from = elim (cases_eq g from.next) [
    | inl e ↦ Over-more (subst (λ (v : ℕ). Over v h from.k) (sym e) from.rest) (omega (arith, from.within))
    | inr ne ↦
        let here : HasWithin old.into m g l = keeps.mirrored g m l arc in
        let b : Bridges new g from.next (here.l + from.l) = step.bridged g from.next here.l from.l left from.next_left ne (omega (arith, here.within, from.within)) here.stands from.first in
        let rest : Over from.next h from.k = from.rest in
        record {
          bend = rest.bend;
          n = b.l + rest.n;
          r = rest.r;
          over = IsSum-append b.over rest.over;
          down = rest.down;
          within = omega (arith, here.within, b.within, rest.within, from.within);
        }
  ]

  along : (g v h l k : ℕ) → IsWithin (IsRest new) g v l → Over v h k → Over g h (l + k)
  along g v h l k first rest =
      record {
        bend = rest.bend;
        n = first.l + rest.n;
        r = rest.r;
        over = IsSum-append first.sum rest.over;
        down = rest.down;
        within = omega (arith, first.within, rest.within);
      }

  record Crosses (g h k : ℕ) : Type 0 where
    from_other : g ≢ m → Over g h k
    from_here : g ≡ m → (h ≡ m) ⊎ FromHere h k

  cross : {g h k : ℕ} → k ≤ longest → IsSum (IsRest old) g h k → Crosses g h k
  cross {g} {h} {k} short none =
      record {
        from_other = λ ne. record { bend = g; n = 0; r = 0; over = none; down = none; within = omega arith };
        from_here = λ e. inl e;
      }
  cross {g} {h} {k} short (more {v = v} {l = l} {m = n} arc rest) =
      let ih : Crosses v h n = cross (omega arith) rest in
      record {
        from_other = λ ne.
            let left : IsLeft new g = still_left g ne arc.from_left in
            elim (cases_eq v m) [
              | inl e ↦
                  let here : IsRest old g m l = subst (λ (x : ℕ). IsRest old g x l) e arc in
                  elim (ih.from_here e) [
                    | inl end ↦
                        let d : IsWithin (IsDown new) g m l = down_to g l left here in
                        record {
                          bend = g;
                          n = 0;
                          r = d.l;
                          over = none;
                          down = subst (λ (x : ℕ). IsSum (IsDown new) g x d.l) (sym end) d.sum;
                          within = omega (arith, d.within);
                        }
                    | inr from ↦ past g h l n short left here from
                  ]
              | inr other ↦ along g v h l n (rest_stays g v l left (still_left v other arc.to_left) arc.stands) (ih.from_other other)
            ];
        from_here = λ e. elim (cases_eq v m) [
          | inl same ↦ elim (ih.from_here same) [
            | inl end ↦ inl end
            | inr from ↦ inr (record {
              next = from.next;
              l = from.l;
              k = from.k;
              next_left = from.next_left;
              first = from.first;
              rest = from.rest;
              within = omega (arith, from.within);
            })
          ]
          | inr other ↦ inr (record {
            next = v;
            l = l;
            k = n;
            next_left = still_left v other arc.to_left;
            first = subst (λ (x : ℕ). HasArc old.out x v l) e arc.stands;
            rest = ih.from_other other;
            within = omega arith;
          })
        ];
      }

  -- ranks that rose still rise
  rises_still : (p q : ℕ) → rank_of old p < rank_of old q → rank_of new p < rank_of new q
  rises_still p q lt =
      let low : rank_of old p < last_rank = omega (arith, keeps.ranks q) in
      let same : rank_of new p ≡ rank_of old p = step.others p (λ e. omega (arith, ap (λ (x : ℕ). rank_of old x) e, step.left.is_left)) in
      elim (cases_eq q m) [
        | inl e ↦ omega (arith, same, step.above p low, ap (λ (x : ℕ). rank_of new x) e)
        | inr ne ↦ omega (arith, same, step.others q ne)
      ]

  up_still : (p q l : ℕ) → IsUp old p q l → IsWithin (IsUp new) p q l
  up_still p q l arc =
      let rises : rank_of new p < rank_of new q = rises_still p q arc.rises in
      let w : HasWithin new.out p q l = step.out_stays p q l (omega arith) arc.stands in
      record { l = w.l; sum = IsSum-one (record { rises = rises; stands = w.stands }); within = w.within }

  down_still : (p q l : ℕ) → IsDown old p q l → IsWithin (IsDown new) p q l
  down_still p q l arc =
      let falls : rank_of new q < rank_of new p = rises_still q p arc.falls in
      let w : HasWithin new.into q p l = step.into_stays p q l (omega arith) arc.stands in
      record { l = w.l; sum = IsSum-one (record { falls = falls; stands = w.stands }); within = w.within }

  join : (a b g h l k n total : ℕ) → IsWithin (IsUp new) a g l → Over g h k → IsWithin (IsDown new) h b n → l + k + n ≤ total → Leads new a b total
  join a b g h l k n total up over down le =
      record {
        top = g;
        bend = over.bend;
        l = up.l;
        k = over.n;
        n = over.r + down.l;
        up = up.sum;
        over = over.over;
        down = IsSum-append over.down down.sum;
        within = omega (arith, up.within, over.within, down.within);
      }

  leads_still : (a b total : ℕ) → total ≤ longest → Leads old a b total → Leads new a b total
  leads_still a b total short p =
      let up : IsWithin (IsUp new) a p.top p.l = IsSum-map up_still p.up in
      let down : IsWithin (IsDown new) p.bend b p.n = IsSum-map down_still p.down in
      let c : Crosses p.top p.bend p.k = cross (omega (arith, p.within)) p.over in
      elim (cases_eq p.top m) [
        | inl e ↦ elim (c.from_here e) [
          | inl end ↦
              let stays : Over p.top p.bend p.k =
              record { bend = p.top; n = 0; r = 0; over = none; down = subst (λ (x : ℕ). IsSum (IsDown new) p.top x 0) (e ∙ sym end) none; within = omega arith } in
              join a b p.top p.bend p.l p.k p.n total up stays down p.within
          | inr from ↦
              let first : IsWithin (IsUp new) m from.next from.l = up_from from.next from.l from.next_left from.first in
              let start : IsSum (IsUp new) a m up.l = subst (λ (x : ℕ). IsSum (IsUp new) a x up.l) e up.sum in
              let longer : IsWithin (IsUp new) a from.next (p.l + from.l) =
              record { l = up.l + first.l; sum = IsSum-append start first.sum; within = omega (arith, up.within, first.within) } in
              join a b from.next p.bend (p.l + from.l) from.k p.n total longer from.rest down (omega (arith, from.within, p.within))
        ]
        | inr ne ↦ join a b p.top p.bend p.l p.k p.n total up (c.from_other ne) down p.within
      ]

  ranks_still : (v : ℕ) → rank_of new v ≤ last_rank
  ranks_still v = elim (cases_eq v m) [
    | inl e ↦ omega (arith, step.gone, ap (λ (x : ℕ). rank_of new x) e)
    | inr ne ↦ omega (arith, step.others v ne, keeps.ranks v)
  ]

  pub keeps_still : Keeps graph new
  keeps_still =
      record {
        ranks = ranks_still;
        real_out = step.real_out;
        real_into = step.real_into;
        mirrored = step.mirrored;
        whole = λ a b total short walk. leads_still a b total short (keeps.whole a b total short walk);
      }
