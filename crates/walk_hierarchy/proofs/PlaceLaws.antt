-- Sums, labels and meetings by place, and by vertex.
use Rattle.std.proofs.Common.{◌≡◌, ◌∙◌, ℕ, zero, suc, ◌+◌, ◌-◌, ◌<◌, ◌⊎◌, List, [], ◌∷◌, length, slice_index_or, map, Option, Some, None, option_map, refl, sym, ap, subst, inl, inr, arith}
use Rattle.std.specs.Prelude.{Contains, slice_index, IfSome}
use Rattle.std.proofs.lemmas.Bool.{cases_lt}
use Rattle.std.proofs.lemmas.List.{get_or-map, get_or_past, length-map}
use Rattle.std.proofs.lemmas.List.Elements.{Contains-get_or}
use Rattle.move_model.specs.declared.network.NodeNo.{NodeNo}
use Rattle.walk_queue.specs.Keys.{key_at}
use Rattle.walk_hierarchy.specs.declared.labels.Label.{Label}
use Rattle.walk_hierarchy.specs.declared.meeting.Meeting.{Meeting}
use Rattle.walk_hierarchy.specs.declared.settled.Settled.{Settled}
use Rattle.walk_laws.specs.Sums.{IsSum}
use Rattle.walk_laws.specs.Sums.IsSum.{none, more}
use Rattle.walk_hierarchy.specs.Labels.{HasLabel, IsVia, IsLeastFrom, AreSums, AreListed}
use Rattle.walk_hierarchy.specs.Meeting.{IsBetween, HasBest}
use Rattle.walk_hierarchy.proofs.SearchLaws.{label_low}
use Rattle.walk_hierarchy.specs.Places.{IsAt, place_of, AreNames, label_name, settled_name, meeting_name, by_vertex, IsRenumbered}

some_same : {A : Type 0} (x y : A) → Some x ≡ Some y → x ≡ y
some_same x y e = cc

none_not_some : {A : Type 0} (x : A) → None ≡ Some x → ⊥
none_not_some x e = cc

module _ (ranks names : List ℕ) (are : AreNames ranks names) where
  pub place_same : (v w : ℕ) → IsAt ranks v → IsAt ranks w → place_of ranks v ≡ place_of ranks w → v ≡ w
  place_same v w v_at w_at e = sym (are.each v v_at) ∙ ap (slice_index names) e ∙ are.each w w_at

  -- sums

  module _ (one two : ℕ → ℕ → ℕ → Type 0) (r : IsRenumbered ranks one two) where
    pub sum_there : {a b m : ℕ} → IsSum two a b m → IsSum one (place_of ranks a) (place_of ranks b) m
    sum_there none = none
    sum_there {a} {b} {m} (more {v = v} {l = l} arc rest) = more (r.back a v l arc) (sum_there rest)

    pub end_at : {a b m : ℕ} → IsAt ranks a → IsSum two a b m → IsAt ranks b
    end_at at none = at
    end_at {a} {b} {m} at (more {v = v} {l = l} arc rest) = end_at (r.to a v l arc) rest

    -- the vertex at the end
    pub record IsFound (a q m : ℕ) : Type 0 where
      pub v : ℕ
      pub at : IsAt ranks v
      pub is : place_of ranks v ≡ q
      pub sum : IsSum two a v m

    pub sum_back : {p q m : ℕ} (a : ℕ) → IsAt ranks a → place_of ranks a ≡ p → IsSum one p q m → IsFound a q m
    sum_back a at e none = record { v = a; at = at; is = e; sum = none }
    sum_back {p} {q} {m} a at e (more {v = u} {l = l} {m = n} arc rest) =
        let f = r.there p u l arc in
        let same : f.from ≡ a = place_same f.from a (r.from f.from f.to l f.leads) at (f.begins ∙ sym e) in
        let g = sum_back f.to (r.to f.from f.to l f.leads) f.ends rest in
        record { v = g.v; at = g.at; is = g.is; sum = more (subst (λ (k : ℕ). two k f.to l) same f.leads) g.sum }

  -- labels

  module _ (labels : List (Option Label)) where
    pub label_by : (v : ℕ) → IsAt ranks v → key_at (by_vertex ranks names labels) v ≡ option_map (label_name names) (key_at labels (place_of ranks v))
    label_by zero at = absurd (omega (arith, at.from_one))
    label_by (suc k) at =
        let same : k ≡ suc k - 1 = omega arith in
        subst (λ (j : ℕ). slice_index_or (map (λ rank. option_map (label_name names) (key_at labels (rank + 1))) ranks) k None
        ≡ option_map (label_name names) (key_at labels (slice_index ranks j + 1))) same
        (get_or-map (λ rank. option_map (label_name names) (key_at labels (rank + 1))) ranks k 0 None (omega (arith, at.to_nodes)))

    pub label_of_vertex : (v : ℕ) (y : Label) → IsAt ranks v → HasLabel labels (place_of ranks v) y → HasLabel (by_vertex ranks names labels) v (label_name names y)
    label_of_vertex v y at has = record { is = label_by v at ∙ ap (option_map (label_name names)) has.is }

    pub record IsNamed (v : ℕ) (x : Label) : Type 0 where
      pub at : IsAt ranks v
      pub y : Label
      pub has : HasLabel labels (place_of ranks v) y
      pub is : label_name names y ≡ x

    vertex_of_label : (v : ℕ) (x : Label) → HasLabel (by_vertex ranks names labels) v x → IsAt ranks v
    vertex_of_label zero x has = absurd (none_not_some x has.is)
    vertex_of_label (suc k) x has = elim (cases_lt k (length ranks)) [
      | inl lt ↦ record { from_one = omega arith; to_nodes = omega (arith, lt) }
      | inr past ↦
          let name : ℕ → Option Label = λ rank. option_map (label_name names) (key_at labels (rank + 1)) in
          absurd (none_not_some x (sym (get_or_past (map name ranks) k None (omega (arith, past, length-map ranks name))) ∙ has.is))
    ]

    name_of : (v : ℕ) (x : Label) (held : Option Label) → IsAt ranks v → key_at labels (place_of ranks v) ≡ held → option_map (label_name names) held ≡ Some x → IsNamed v x
    name_of v x None at is e = absurd (none_not_some x e)
    name_of v x (Some y) at is e = record { at = at; y = y; has = record { is = is }; is = some_same (label_name names y) x e }

    pub label_named : (v : ℕ) (x : Label) → HasLabel (by_vertex ranks names labels) v x → IsNamed v x
    label_named v x has =
        let at = vertex_of_label v x has in
        name_of v x (key_at labels (place_of ranks v)) at refl (sym (label_by v at) ∙ has.is)

    module _ (one two : ℕ → ℕ → ℕ → Type 0) (r : IsRenumbered ranks one two) (from : ℕ) (start : IsAt ranks from) where
      module _ (sums : (q : ℕ) (y : Label) → HasLabel labels q y → IsSum one (place_of ranks from) q y.seconds) where
        pub vertex_at : (q : ℕ) (y : Label) → HasLabel labels q y → IsFound one two r from q y.seconds
        vertex_at q y has = sum_back one two r from start refl (sums q y has)

        sum_by : (v : ℕ) (x : Label) → HasLabel (by_vertex ranks names labels) v x → IsSum two from v x.seconds
        sum_by v x has =
            let n = label_named v x has in
            let f = vertex_at (place_of ranks v) n.y n.has in
            let same : f.v ≡ v = place_same f.v v f.at n.at f.is in
            let seconds : n.y.seconds ≡ x.seconds = ap (λ (z : Label). z.seconds) n.is in
            subst (λ (s : ℕ). IsSum two from v s) seconds (subst (λ (u : ℕ). IsSum two from u n.y.seconds) same f.sum)

        via_by : (v : ℕ) (x : Label) → (n : IsNamed v x) → IsVia one labels (place_of ranks v) n.y → IsVia two (by_vertex ranks names labels) v x
        via_by v x n via =
            let p = vertex_at n.y.parent.0 via.y via.before in
            let arc = r.there n.y.parent.0 (place_of ranks v) via.k via.leads in
            let from_is : arc.from ≡ p.v = place_same arc.from p.v (r.from arc.from arc.to via.k arc.leads) p.at (arc.begins ∙ sym p.is) in
            let to_is : arc.to ≡ v = place_same arc.to v (r.to arc.from arc.to via.k arc.leads) n.at arc.ends in
            let parent : p.v ≡ x.parent.0 = sym (are.each p.v p.at) ∙ ap (slice_index names) p.is ∙ ap (λ (z : Label). z.parent.0) n.is in
            let seconds : n.y.seconds ≡ x.seconds = ap (λ (z : Label). z.seconds) n.is in
            record {
              y = label_name names via.y;
              k = via.k;
              before = subst (λ (u : ℕ). HasLabel (by_vertex ranks names labels) u (label_name names via.y)) parent
                  (label_of_vertex p.v via.y p.at (subst (λ (q : ℕ). HasLabel labels q via.y) (sym p.is) via.before));
              leads = subst (λ (u : ℕ). two u v via.k) (from_is ∙ parent) (subst (λ (u : ℕ). two arc.from u via.k) to_is arc.leads);
              within = omega (arith, via.within, seconds);
            }

        comes_by : ((q : ℕ) (y : Label) → HasLabel labels q y → ((q ≡ place_of ranks from) × (y.seconds ≡ 0)) ⊎ IsVia one labels q y)
            → (v : ℕ) (x : Label) → HasLabel (by_vertex ranks names labels) v x
            → ((v ≡ from) × (x.seconds ≡ 0)) ⊎ IsVia two (by_vertex ranks names labels) v x
        comes_by comes v x has =
            let n = label_named v x has in
            elim (comes (place_of ranks v) n.y n.has) [
              | inl first ↦
                  let seconds : n.y.seconds ≡ x.seconds = ap (λ (z : Label). z.seconds) n.is in
                  inl (place_same v from n.at start first.0, sym seconds ∙ first.1)
              | inr via ↦ inr (via_by v x n via)
            ]

      pub sums_by : AreSums one (place_of ranks from) labels → AreSums two from (by_vertex ranks names labels)
      sums_by is = record { sums = sum_by is.sums; comes = comes_by is.sums is.comes }

      pub least_by : IsLeastFrom one (place_of ranks from) labels → IsLeastFrom two from (by_vertex ranks names labels)
      least_by is =
          let sums : (q : ℕ) (y : Label) → HasLabel labels q y → IsSum one (place_of ranks from) q y.seconds = λ q y has. (is.least q y has).attained in
          record {
            least = λ v x has.
                let n = label_named v x has in
                let seconds : n.y.seconds ≡ x.seconds = ap (λ (z : Label). z.seconds) n.is in
                record {
                  attained = sum_by sums v x has;
                  least = λ m sum. omega (arith, seconds, (is.least (place_of ranks v) n.y n.has).least m (sum_there one two r sum));
                };
            all = λ v m sum.
                let w = is.all (place_of ranks v) m (sum_there one two r sum) in
                record { x = label_name names w.x; label = label_of_vertex v w.x (end_at one two r start sum) w.label; within = w.within };
            comes = comes_by sums is.comes;
          }

      -- the entries of the labels
      module _ (places : List Settled) (listed : AreListed labels places) (is : IsLeastFrom one (place_of ranks from) labels) where
        place_there : (k : ℕ) (d : Settled) → k < length places → (v : ℕ) × (IsAt ranks v × (place_of ranks v ≡ (slice_index_or places k d).node.0))
        place_there k d lt =
            let entry : Settled = slice_index_or places k d in
            let has = listed.only entry.node.0 entry.seconds (k, lt, sym (get_or_same places k d lt)) in
            let f = vertex_at (λ q y label. (is.least q y label).attained) entry.node.0 has.0 has.1.0 in
            (f.v, (f.at, f.is))
          where
            get_or_same : (xs : List Settled) (i : ℕ) (d : Settled) → i < length xs → slice_index_or xs i d ≡ slice_index_or xs i (slice_index_or xs i d)
            get_or_same [] i d lt = absurd (omega (arith, lt))
            get_or_same (x ∷ xs) zero d lt = refl
            get_or_same (x ∷ xs) (suc i) d lt = get_or_same xs i d (omega (arith, lt))

        pub listed_by : AreListed (by_vertex ranks names labels) (map (settled_name names) places)
        listed_by = record {
          all = λ v x has.
              let n = label_named v x has in
              let at = listed.all (place_of ranks v) n.y n.has in
              let old : Settled = record { node = record { 0 = place_of ranks v }; seconds = n.y.seconds } in
              let new : Settled = record { node = record { 0 = v }; seconds = x.seconds } in
              let seconds : n.y.seconds ≡ x.seconds = ap (λ (z : Label). z.seconds) n.is in
              let same : settled_name names old ≡ new = λ i. record { node = record { 0 = (are.each v n.at) i }; seconds = seconds i } in (
                at.0,
                omega (arith, at.1, length-map places (settled_name names)),
                get_or-map (settled_name names) places at.0 old new at.1 ∙ ap (settled_name names) at.2 ∙ same,
              );
          only = λ v m has.
              let low : has.0 < length places = omega (arith, has.1, length-map places (settled_name names)) in
              let new : Settled = record { node = record { 0 = v }; seconds = m } in
              let entry : Settled = slice_index_or places has.0 new in
              let named : settled_name names (slice_index_or places has.0 new) ≡ new = sym (get_or-map (settled_name names) places has.0 new new low) ∙ has.2 in
              let at = place_there has.0 new low in
              let vertex : at.0 ≡ v = sym (are.each at.0 at.1.0) ∙ ap (slice_index names) at.1.1 ∙ ap (λ (s : Settled). s.node.0) named in
              let place : (slice_index_or places has.0 new).node.0 ≡ place_of ranks v = sym at.1.1 ∙ ap (place_of ranks) vertex in
              let old : Contains places (record { node = record { 0 = place_of ranks v }; seconds = m }) =
              subst (λ (s : Settled). Contains places s) (λ i. record { node = record { 0 = place i }; seconds = (named i).seconds }) (Contains-get_or places has.0 new low) in
              let label = listed.only (place_of ranks v) m old in
              (label_name names label.0, (label_of_vertex v label.0 (subst (λ (u : ℕ). IsAt ranks u) vertex at.1.0) label.1.0, label.1.1));
          once = λ i j d lt low same.
              let j_low : j < length places = omega (arith, low, length-map places (settled_name names)) in
              let i_low : i < length places = omega (arith, lt, j_low) in
              let v = place_there i d i_low in
              let w = place_there j d j_low in
              let i_name : (slice_index_or (map (settled_name names) places) i d).node.0 ≡ v.0 =
              ap (λ (s : Settled). s.node.0) (get_or-map (settled_name names) places i d d i_low) ∙ ap (slice_index names) (sym v.1.1) ∙ are.each v.0 v.1.0 in
              let j_name : (slice_index_or (map (settled_name names) places) j d).node.0 ≡ w.0 =
              ap (λ (s : Settled). s.node.0) (get_or-map (settled_name names) places j d d j_low) ∙ ap (slice_index names) (sym w.1.1) ∙ are.each w.0 w.1.0 in
              let vertex : v.0 ≡ w.0 = sym i_name ∙ ap (λ (n : NodeNo). n.0) same ∙ j_name in
              let place : (slice_index_or places i d).node.0 ≡ (slice_index_or places j d).node.0 = sym v.1.1 ∙ ap (place_of ranks) vertex ∙ w.1.1 in
              listed.once i j d lt j_low (λ k. record { 0 = place k });
        }

  -- where two searches meet
  module _ (one two one' two' : ℕ → ℕ → ℕ → Type 0) (r : IsRenumbered ranks one two) (s : IsRenumbered ranks one' two') (a b : ℕ) (a_at : IsAt ranks a) (b_at : IsAt ranks b) where
    between_there : (m : ℕ) → IsBetween two two' a b m → IsBetween one one' (place_of ranks a) (place_of ranks b) m
    between_there m is = record {
      top = place_of ranks is.top;
      l = is.l;
      k = is.k;
      there = sum_there one two r is.there;
      back = sum_there one' two' s is.back;
      total = is.total;
    }

    between_back : (m : ℕ) → IsBetween one one' (place_of ranks a) (place_of ranks b) m → IsBetween two two' a b m
    between_back m is =
        let f = sum_back one two r a a_at refl is.there in
        let g = sum_back one' two' s b b_at refl is.back in
        let same : g.v ≡ f.v = place_same g.v f.v g.at f.at (g.is ∙ sym f.is) in
        record { top = f.v; l = is.l; k = is.k; there = f.sum; back = subst (λ (v : ℕ). IsSum two' b v is.k) same g.sum; total = is.total }

    pub best_by : (labels others : List (Option Label)) (best : Option Meeting) → AreSums one (place_of ranks a) labels
        → HasBest one one' (place_of ranks a) (place_of ranks b) labels others best
        → HasBest two two' a b (by_vertex ranks names labels) (by_vertex ranks names others) (option_map (meeting_name names) best)
    best_by labels others None sums is = λ m between. is m (between_there m between)
    best_by labels others (Some m) sums is =
        let meets = is.meets in
        let f = vertex_at labels one two r a a_at sums.sums m.node.0 meets.x meets.there in
        let name : f.v ≡ slice_index names m.node.0 = sym (are.each f.v f.at) ∙ ap (slice_index names) f.is in
        record {
          meets = record {
            x = label_name names meets.x;
            y = label_name names meets.y;
            there = subst (λ (v : ℕ). HasLabel (by_vertex ranks names labels) v (label_name names meets.x)) name
                (label_of_vertex labels f.v meets.x f.at (subst (λ (q : ℕ). HasLabel labels q meets.x) (sym f.is) meets.there));
            back = subst (λ (v : ℕ). HasLabel (by_vertex ranks names others) v (label_name names meets.y)) name
                (label_of_vertex others f.v meets.y f.at (subst (λ (q : ℕ). HasLabel others q meets.y) (sym f.is) meets.back));
            total = meets.total;
          };
          least = record {
            attained = between_back m.seconds is.least.attained;
            least = λ n between. is.least.least n (between_there n between);
          };
        }

pub map_map : {A B C : Type 0} (g : B → C) (f : A → B) (xs : List A) → map g (map f xs) ≡ map (λ x. g (f x)) xs
map_map g f [] = refl
map_map g f (x ∷ xs) = ap (λ ys. g (f x) ∷ ys) (map_map g f xs)

pub low_meeting : (one two : ℕ → ℕ → ℕ → Type 0) (a b : ℕ) (labels others : List (Option Label)) (best : Option Meeting) (n : ℕ)
    → HasBest one two a b labels others best → length labels ≡ n → IfSome best (λ m. m.node.0 < n)
low_meeting one two a b labels others None n is many = tt
low_meeting one two a b labels others (Some m) n is many = omega (arith, many, label_low labels m.node.0 is.meets.x is.meets.there)
