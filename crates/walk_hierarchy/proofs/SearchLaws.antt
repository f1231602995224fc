-- The steps of a search, and what it leaves.
use Rattle.std.proofs.Common.{◌≡◌, ◌≢◌, ℕ, ◌+◌, ◌*◌, ◌<◌, ◌≤◌, ◌⊎◌, Bool, true, false, cond, List, length, slice_index_or, slice_set, replicate, Option, Some, None, arith, refl, sym, ap, subst, inl, inr, ◌∙◌}
use Rattle.std.specs.Prelude.{nat_lt}
use Rattle.std.proofs.lemmas.Bool.{cases_eq, cases_lt}
use Rattle.std.proofs.lemmas.Bool.Decides.{nat_tests}
use Rattle.std.proofs.lemmas.List.{get_or_default, get_or_past, get_or-set_same, get_or-set_other, get_or-replicate, length-set, length-replicate, same_lists}
use Rattle.std.proofs.lemmas.List.Sums.{sum_by-set}
use Rattle.std.proofs.lemmas.List.Folds.{sum_by-replicate}
use Rattle.std.specs.declared.cmp.Ordering.TheVariants.{Less, Equal, Greater}
use Rattle.std.specs.Ordering.{nat_cmp}
use Rattle.std.specs.Cmp.{nat_cmp_is}
use Rattle.std.proofs.lemmas.List.Elements.{Contains-get_or}
use Rattle.move_model.specs.declared.network.NodeNo.{NodeNo}
use Rattle.walk_queue.specs.Keys.{key_at, IsEmpty, IsLeast as IsLeastKey}
use Rattle.walk_hierarchy.specs.declared.labels.Label.{Label}
use Rattle.walk_hierarchy.specs.declared.rows.Half.{Half}
use Rattle.walk_hierarchy.specs.declared.rows.Rows.{Rows}
use Rattle.walk_laws.specs.Sums.{IsSum, longest}
use Rattle.walk_laws.specs.Sums.IsSum.{none, more}
use Rattle.walk_hierarchy.specs.Labels.{HasLabel, HasWithin, IsVia, IsLeastFrom, lowers}
use Rattle.walk_hierarchy.specs.Search.{row_of, HasHalf, Climbs, Waits, IsClosed, IsDone, IsSound, IsSearch, IsGoing, IsOnward, weight, waiting, work_left, labels_with, queue_with}
use Rattle.walk_laws.proofs.SumLemmas.{IsSum-append, IsSum-one}

-- one entry for each vertex

pub Some-same : {A : Type 0} (x y : A) → Some x ≡ Some y → x ≡ y
Some-same x y e = cc

pub some_or_none : {A : Type 0} (x : A) → None ≡ Some x → ⊥
some_or_none x e = cc

pub label_same : (labels : List (Option Label)) (v : ℕ) (x y : Label) → HasLabel labels v x → HasLabel labels v y → x ≡ y
label_same labels v x y f g = Some-same x y (sym f.is ∙ g.is)

pub entry_low : {A : Type 0} (entries : List (Option A)) (v : ℕ) (x : A) → key_at entries v ≡ Some x → v < length entries
entry_low entries v x is = elim (cases_lt v (length entries)) [
  | inl lt ↦ lt
  | inr past ↦ absurd (some_or_none x (sym (get_or_past entries v None past) ∙ is))
]

pub label_low : (labels : List (Option Label)) (v : ℕ) (x : Label) → HasLabel labels v x → v < length labels
label_low labels v x f = entry_low labels v x f.is

entry_here : {A : Type 0} (entries : List (Option A)) (v : ℕ) (x : Option A) → v < length entries → key_at (slice_set entries v x) v ≡ x
entry_here entries v x low = get_or-set_same entries v x None low

pub entry_other : {A : Type 0} (entries : List (Option A)) (v u : ℕ) (x : Option A) → u ≢ v → key_at (slice_set entries v x) u ≡ key_at entries u
entry_other entries v u x ne = get_or-set_other entries v u x None ne

pub entry_none : {A : Type 0} (n v : ℕ) (x : A) → key_at (replicate n None) v ≡ Some x → ⊥
entry_none {A} n v x is =
    let low : v < n = subst (λ (k : ℕ). v < k) (length-replicate {A = Option A} n None) (entry_low (replicate n None) v x is) in
    some_or_none x (sym (get_or-replicate {A = Option A} n v None None low) ∙ is)

-- what a label that comes to a vertex changes

pub record IsMarked (labels : List (Option Label)) (queue : List (Option ℕ)) (after : List (Option Label)) (then_waits : List (Option ℕ)) (w : ℕ) (x : Label) : Type 0 where
  pub many : length after ≡ length labels
  pub room : length then_waits ≡ length queue
  pub less : work_left after then_waits ≤ work_left labels queue
  pub falls : (u m : ℕ) → HasWithin labels u m → HasWithin after u m
  pub reached : HasWithin after w x.seconds
  pub only : (u : ℕ) (y : Label) → HasLabel after u y
      → (HasLabel labels u y × ((k : ℕ) → Waits queue u k → Waits then_waits u k)) ⊎ ((u ≡ w) × ((y ≡ x) × Waits then_waits w x.seconds))
  pub waits : (u k : ℕ) → Waits then_waits u k
      → (Waits queue u k × ((y : Label) → HasLabel labels u y → HasLabel after u y)) ⊎ ((u ≡ w) × ((k ≡ x.seconds) × HasLabel after w x))
  pub same : (u : ℕ) (y : Label) → u ≢ w → HasLabel labels u y → HasLabel after u y

module _ (labels : List (Option Label)) (queue : List (Option ℕ)) (w : ℕ) (x : Label) where
  not_lowered : (held : Option Label) → key_at labels w ≡ held → lowers x held ≡ false → HasWithin labels w x.seconds
  not_lowered None is low = absurd (cc)
  not_lowered (Some y) is low = record { x = y; label = record { is = is }; within = grind (arith, nat_tests) }

  stays_marked : lowers x (key_at labels w) ≡ false → IsMarked labels queue labels queue w x
  stays_marked low = record {
    many = refl;
    room = refl;
    less = omega arith;
    falls = λ u m has. has;
    reached = not_lowered (key_at labels w) refl low;
    only = λ u y label. inl (label, λ k is. is);
    waits = λ u k is. inl (is, λ y label. label);
    same = λ u y ne label. label;
  }

  weighs_more : (held : Option Label) → lowers x held ≡ true → x.seconds < 18446744073709551616 → x.seconds < weight held
  weighs_more None low small = small
  weighs_more (Some y) low small = grind (arith, nat_tests)

  is_less : (y : Label) → key_at labels w ≡ Some y → lowers x (key_at labels w) ≡ true → x.seconds < y.seconds
  is_less y is low =
      let test : nat_lt x.seconds y.seconds ≡ true = sym (ap (lowers x) is) ∙ low in
      grind (arith, nat_tests)

  module _ (low : w < length labels) (room : length queue ≡ length labels) (small : x.seconds < 18446744073709551616) (lower : lowers x (key_at labels w) ≡ true) where
    after : List (Option Label)
    after = slice_set labels w (Some x)

    here : HasLabel (slice_set labels w (Some x)) w x
    here = record { is = entry_here labels w (Some x) low }

    waits_here : Waits (slice_set queue w (Some x.seconds)) w x.seconds
    waits_here = entry_here queue w (Some x.seconds) (omega arith)

    lowered_marked : IsMarked labels queue (slice_set labels w (Some x)) (slice_set queue w (Some x.seconds)) w x
    lowered_marked =
        let sums = sum_by-set weight labels w (Some x) None low in
        let count = sum_by-set waiting queue w (Some x.seconds) None (omega arith) in
        record {
          many = length-set labels w (Some x);
          room = length-set queue w (Some x.seconds);
          less = omega (arith, sums, count, weighs_more (key_at labels w) lower small);
          falls = λ u m has. elim (cases_eq u w) [
            | inl e ↦
                let was : key_at labels w ≡ Some has.x = ap (key_at labels) (sym e) ∙ has.label.is in
                let fewer : x.seconds < has.x.seconds = is_less has.x was lower in
                record { x = x; label = subst (λ (n : ℕ). HasLabel (slice_set labels w (Some x)) n x) (sym e) here; within = omega (arith, has.within, fewer) }
            | inr ne ↦ record { x = has.x; label = record { is = entry_other labels w u (Some x) ne ∙ has.label.is }; within = has.within }
          ];
          reached = record { x = x; label = here; within = omega arith };
          only = λ u y label. elim (cases_eq u w) [
            | inl e ↦
                let at : HasLabel (slice_set labels w (Some x)) w y = subst (λ (n : ℕ). HasLabel (slice_set labels w (Some x)) n y) e label in
                inr (e, (label_same (slice_set labels w (Some x)) w y x at here, waits_here))
            | inr ne ↦
                inl (record { is = sym (entry_other labels w u (Some x) ne) ∙ label.is }, λ k is. entry_other queue w u (Some x.seconds) ne ∙ is)
          ];
          waits = λ u k is. elim (cases_eq u w) [
            | inl e ↦
                let at : Waits (slice_set queue w (Some x.seconds)) w k = ap (key_at (slice_set queue w (Some x.seconds))) (sym e) ∙ is in
                inr (e, (Some-same k x.seconds (sym at ∙ waits_here), here))
            | inr ne ↦
                inl (sym (entry_other queue w u (Some x.seconds) ne) ∙ is, λ y label. record { is = entry_other labels w u (Some x) ne ∙ label.is })
          ];
          same = λ u y ne label. record { is = entry_other labels w u (Some x) ne ∙ label.is };
        }

  marked_by : (b : Bool) → lowers x (key_at labels w) ≡ b → w < length labels → length queue ≡ length labels → x.seconds < 18446744073709551616
      → IsMarked labels queue (cond b (slice_set labels w (Some x)) labels) (cond b (slice_set queue w (Some x.seconds)) queue) w x
  marked_by true lower low room small = lowered_marked low room small lower
  marked_by false stay low room small = stays_marked stay

  pub marked : w < length labels → length queue ≡ length labels → x.seconds < 18446744073709551616
      → IsMarked labels queue (labels_with labels w x) (queue_with labels queue w x) w x
  marked = marked_by (lowers x (key_at labels w)) refl

-- the seconds are few

module _ (rows : Rows) (places : ℕ) (c : Climbs rows places) where
  pub ranked : {a b m : ℕ} → IsSum (HasHalf rows) a b m → m + longest * c.rank a ≤ longest * c.rank b
  ranked none = omega arith
  ranked {a} {b} {m} (more {v = v} {l = l} {m = n} arc rest) =
      omega (arith, ranked rest, c.climbs a v l arc, c.short a v l arc)

  pub few_seconds : {a b m : ℕ} → IsSum (HasHalf rows) a b m → m ≤ 4000000000000000000
  few_seconds {a} {b} {m} sum = omega (arith, ranked sum, c.low b)

  pub ends_low : {a b m : ℕ} → a < places → IsSum (HasHalf rows) a b m → b < places
  ends_low low none = low
  ends_low low (more {a = a} {v = v} {l = l} arc rest) = ends_low (c.ends a v l arc) rest

-- one label more keeps what is sound

via_falls : (rows : Rows) (old new : List (Option Label)) (v : ℕ) (x : Label)
    → ((u m : ℕ) → HasWithin old u m → HasWithin new u m) → IsVia (HasHalf rows) old v x → IsVia (HasHalf rows) new v x
via_falls rows old new v x falls via =
    let now : HasWithin new x.parent.0 via.y.seconds = falls x.parent.0 via.y.seconds (record { x = via.y; label = via.before; within = omega arith }) in
    record { y = now.x; k = via.k; before = now.label; leads = via.leads; within = omega (arith, now.within, via.within) }

closed_falls : (rows : Rows) (old new : List (Option Label)) (v s : ℕ)
    → ((u m : ℕ) → HasWithin old u m → HasWithin new u m) → IsClosed rows old v s → IsClosed rows new v s
closed_falls rows old new v s falls closed = λ q k arc. falls q (s + k) (closed q k arc)

module _ (rows : Rows) (from w : ℕ) (x : Label) (labels : List (Option Label)) (queue : List (Option ℕ)) (after : List (Option Label)) (then_waits : List (Option ℕ)) where
  sound_marked : IsSound rows from labels queue → IsMarked labels queue after then_waits w x
      → IsSum (HasHalf rows) from w x.seconds → IsVia (HasHalf rows) after w x → IsSound rows from after then_waits
  sound_marked sound m sum via = record {
    room = m.room ∙ sound.room ∙ sym m.many;
    sums = λ u y label. elim (m.only u y label) [
      | inl was ↦ sound.sums u y was.0
      | inr now ↦
          subst (λ (n : ℕ). IsSum (HasHalf rows) from n y.seconds) (sym now.0)
          (subst (λ (z : Label). IsSum (HasHalf rows) from w z.seconds) (sym now.1.0) sum)
    ];
    comes = λ u y label. elim (m.only u y label) [
      | inl was ↦ elim (sound.comes u y was.0) [
        | inl first ↦ inl first
        | inr before ↦ inr (via_falls rows labels after u y m.falls before)
      ]
      | inr now ↦
          inr (subst (λ (n : ℕ). IsVia (HasHalf rows) after n y) (sym now.0) (subst (λ (z : Label). IsVia (HasHalf rows) after w z) (sym now.1.0) via))
    ];
    start = m.falls from 0 sound.start;
    waits = λ u k is. elim (m.waits u k is) [
      | inl was ↦
          let at = sound.waits u k was.0 in
          (at.0, (was.1 at.0 at.1.0, at.1.1))
      | inr now ↦
          (x, (subst (λ (n : ℕ). HasLabel after n x) (sym now.0) now.1.1, sym now.1.0))
    ];
  }

  closed_marked : (bound : ℕ) → IsMarked labels queue after then_waits w x → (u : ℕ) (y : Label) → HasLabel after u y
      → (HasLabel labels u y → IsDone rows bound labels queue u y.seconds) → IsDone rows bound after then_waits u y.seconds
  closed_marked bound m u y label before = elim (m.only u y label) [
    | inl was ↦ elim (before was.0) [
      | inl waits ↦ inl (was.1 y.seconds waits)
      | inr (inl closed) ↦ inr (inl (closed_falls rows labels after u y.seconds m.falls closed))
      | inr (inr far) ↦ inr (inr far)
    ]
    | inr now ↦
        inl (subst (λ (n : ℕ). Waits then_waits n y.seconds) (sym now.0) (subst (λ (z : Label). Waits then_waits w z.seconds) (sym now.1.0) now.1.1))
  ]

-- the half of a row, as an arc
pub half_stands : (rows : Rows) (v i : ℕ) (d : Half) → v + 1 < length rows.first.items → i < length (row_of rows v)
    → HasHalf rows v (slice_index_or (row_of rows v) i d).to.0 (slice_index_or (row_of rows v) i d).seconds
half_stands rows v i d exists lt =
    record { middle = (slice_index_or (row_of rows v) i d).middle; exists = exists; stands = Contains-get_or (row_of rows v) i d lt }

-- along one more arc of a row
module _ (rows : Rows) (c : (p q l : ℕ) → HasHalf rows p q l → p ≢ q) (from bound : ℕ) (v : ℕ) (s i : ℕ) (d : Half) (x : Label) (labels : List (Option Label)) (queue : List (Option ℕ)) (after : List (Option Label)) (then_waits : List (Option ℕ)) where
  going_marked : (arc : HasHalf rows v (slice_index_or (row_of rows v) i d).to.0 (slice_index_or (row_of rows v) i d).seconds)
      → i < length (row_of rows v)
      → x.parent.0 ≡ v → x.seconds ≡ s + (slice_index_or (row_of rows v) i d).seconds
      → IsGoing rows from bound v s i labels queue → IsMarked labels queue after then_waits (slice_index_or (row_of rows v) i d).to.0 x
      → IsGoing rows from bound v s (i + 1) after then_waits
  going_marked arc lt parent seconds going m =
      let w : ℕ = (slice_index_or (row_of rows v) i d).to.0 in
      let other : v ≢ (slice_index_or (row_of rows v) i d).to.0 = c v (slice_index_or (row_of rows v) i d).to.0 (slice_index_or (row_of rows v) i d).seconds arc in
      let y : Label = going.here.0 in
      let still : HasLabel after v going.here.0 = m.same v going.here.0 other going.here.1.0 in
      let sum : IsSum (HasHalf rows) from (slice_index_or (row_of rows v) i d).to.0 x.seconds =
      subst (λ (n : ℕ). IsSum (HasHalf rows) from (slice_index_or (row_of rows v) i d).to.0 n) (ap (λ (n : ℕ). n + (slice_index_or (row_of rows v) i d).seconds) going.here.1.1 ∙ sym seconds)
      (IsSum-append (going.sound.sums v going.here.0 going.here.1.0) (IsSum-one arc)) in
      let via : IsVia (HasHalf rows) after (slice_index_or (row_of rows v) i d).to.0 x = record {
        y = going.here.0;
        k = (slice_index_or (row_of rows v) i d).seconds;
        before = subst (λ (n : ℕ). HasLabel after n going.here.0) (sym parent) still;
        leads = subst (λ (n : ℕ). HasHalf rows n (slice_index_or (row_of rows v) i d).to.0 (slice_index_or (row_of rows v) i d).seconds) (sym parent) arc;
        within = omega (arith, going.here.1.1, seconds);
      } in
      record {
        sound = sound_marked rows from (slice_index_or (row_of rows v) i d).to.0 x labels queue after then_waits going.sound m sum via;
        here = (going.here.0, (still, going.here.1.1));
        others = λ u z ne label. closed_marked rows from (slice_index_or (row_of rows v) i d).to.0 x labels queue after then_waits bound m u z label (going.others u z ne);
        passed = λ k e le. elim (cases_eq k i) [
          | inl eq ↦
              let at : slice_index_or (row_of rows v) i d ≡ slice_index_or (row_of rows v) k e =
              get_or_default (row_of rows v) i d e lt ∙ ap (λ (j : ℕ). slice_index_or (row_of rows v) j e) (sym eq) in
              let reached : HasWithin after (slice_index_or (row_of rows v) i d).to.0 (s + (slice_index_or (row_of rows v) i d).seconds) =
              subst (λ (n : ℕ). HasWithin after (slice_index_or (row_of rows v) i d).to.0 n) seconds m.reached in
              subst (λ (h : Half). HasWithin after h.to.0 (s + h.seconds)) at reached
          | inr ne ↦ m.falls _ _ (going.passed k e (omega arith))
        ];
      }

-- a vertex is taken out of those that wait
pub going_taken : (rows : Rows) (from bound v s : ℕ) (labels : List (Option Label)) (queue : List (Option ℕ))
    → IsSearch rows from bound labels queue → Waits queue v s → IsGoing rows from bound v s 0 labels (slice_set queue v None)
going_taken rows from bound v s labels queue search waits =
    let low : v < length queue = entry_low queue v s waits in
    record {
      sound = record {
        room = length-set queue v None ∙ search.sound.room;
        sums = search.sound.sums;
        comes = search.sound.comes;
        start = search.sound.start;
        waits = λ u k is. elim (cases_eq u v) [
          | inl e ↦ absurd (some_or_none k (sym (entry_here queue v None low) ∙ ap (key_at (slice_set queue v None)) (sym e) ∙ is))
          | inr ne ↦ search.sound.waits u k (sym (entry_other queue v u None ne) ∙ is)
        ];
      };
      here = search.sound.waits v s waits;
      others = λ u x ne label. elim (search.closed u x label) [
        | inl still ↦ inl (entry_other queue v u None ne ∙ still)
        | inr done ↦ inr done
      ];
      passed = λ k d lt. absurd (omega arith);
    }

pub less_taken : {A : Type 0} (labels : List (Option Label)) (queue : List (Option A)) (v : ℕ) (s : A) → key_at queue v ≡ Some s → work_left labels (slice_set queue v None) < work_left labels queue
less_taken labels queue v s waits =
    let low : v < length queue = entry_low queue v s waits in
    let sums = sum_by-set waiting queue v None None low in
    let one : waiting (key_at queue v) ≡ 1 = ap waiting waits in
    omega (arith, sums, one)

-- all arcs of the vertex are done
pub search_left : (rows : Rows) (from bound v s : ℕ) (labels : List (Option Label)) (queue : List (Option ℕ))
    → IsGoing rows from bound v s (length (row_of rows v)) labels queue → IsSearch rows from bound labels queue
search_left rows from bound v s labels queue going = record {
  sound = going.sound;
  closed = λ u x label. elim (cases_eq u v) [
    | inl e ↦
        let at : HasLabel labels v x = subst (λ (n : ℕ). HasLabel labels n x) e label in
        let same : x.seconds ≡ s = ap (λ (y : Label). y.seconds) (label_same labels v x going.here.0 at going.here.1.0) ∙ going.here.1.1 in
        inr (inl (λ q k arc.
        let mine : HasHalf rows v q k = subst (λ (n : ℕ). HasHalf rows n q k) e arc in
        let h : Half = record { seconds = k; to = record { 0 = q }; middle = mine.middle } in
        let there : HasWithin labels q (s + k) =
        subst (λ (z : Half). HasWithin labels z.to.0 (s + z.seconds)) mine.stands.2 (going.passed mine.stands.0 h mine.stands.1) in
        subst (λ (n : ℕ). HasWithin labels q (n + k)) (sym same) there))
    | inr ne ↦ going.others u x ne label
  ];
}

-- the first vertex has its label
pub search_first : (rows : Rows) (from bound n : ℕ) (x : Label) (labels : List (Option Label)) (queue : List (Option ℕ)) (after : List (Option Label)) (then_waits : List (Option ℕ))
    → labels ≡ replicate n None → queue ≡ replicate n None → x.seconds ≡ 0 → IsMarked labels queue after then_waits from x → IsSearch rows from bound after then_waits
search_first rows from bound n x labels queue after then_waits labels_none queue_none zero m =
    let absent : (u : ℕ) (y : Label) → HasLabel labels u y → ⊥ = λ u y label. entry_none n u y (ap (λ (ls : List (Option Label)). key_at ls u) (sym labels_none) ∙ label.is) in
    let idle : (u k : ℕ) → Waits queue u k → ⊥ = λ u k is. entry_none n u k (ap (λ (ks : List (Option ℕ)). key_at ks u) (sym queue_none) ∙ is) in
    let many : length queue ≡ length labels = ap length queue_none ∙ length-replicate {A = Option ℕ} n None ∙ sym (ap length labels_none ∙ length-replicate {A = Option Label} n None) in
    record {
      sound = record {
        room = m.room ∙ many ∙ sym m.many;
        sums = λ u y label. elim (m.only u y label) [
          | inl was ↦ absurd (absent u y was.0)
          | inr now ↦
              let start : IsSum (HasHalf rows) from u 0 = subst (λ (k : ℕ). IsSum (HasHalf rows) from k 0) (sym now.0) none in
              subst (λ (k : ℕ). IsSum (HasHalf rows) from u k) (sym (ap (λ (z : Label). z.seconds) now.1.0 ∙ zero)) start
        ];
        comes = λ u y label. elim (m.only u y label) [
          | inl was ↦ absurd (absent u y was.0)
          | inr now ↦ inl (now.0, ap (λ (z : Label). z.seconds) now.1.0 ∙ zero)
        ];
        start = subst (λ (k : ℕ). HasWithin after from k) zero m.reached;
        waits = λ u k is. elim (m.waits u k is) [
          | inl was ↦ absurd (idle u k was.0)
          | inr now ↦ (x, (subst (λ (j : ℕ). HasLabel after j x) (sym now.0) now.1.1, sym now.1.0))
        ];
      };
      closed = λ u y label. elim (m.only u y label) [
        | inl was ↦ absurd (absent u y was.0)
        | inr now ↦
            inl (subst (λ (j : ℕ). Waits then_waits j y.seconds) (sym now.0) (subst (λ (z : Label). Waits then_waits from z.seconds) (sym now.1.0) now.1.1))
      ];
    }

-- the first vertex alone has a label, and it waits
pub first_waits : (from n : ℕ) (x : Label) (labels : List (Option Label)) (queue : List (Option ℕ)) (after : List (Option Label)) (then_waits : List (Option ℕ))
    → labels ≡ replicate n None → IsMarked labels queue after then_waits from x → (v : ℕ) (y : Label) → HasLabel after v y → Waits then_waits v y.seconds
first_waits from n x labels queue after then_waits labels_none m v y label = elim (m.only v y label) [
  | inl was ↦ absurd (entry_none n v y (ap (λ (ls : List (Option Label)). key_at ls v) (sym labels_none) ∙ was.0.is))
  | inr now ↦
      subst (λ (k : ℕ). Waits then_waits k y.seconds) (sym now.0) (subst (λ (z : Label). Waits then_waits from z.seconds) (sym now.1.0) now.1.1)
]

-- less is looked for
pub search_lower : (rows : Rows) (from bound less : ℕ) (labels : List (Option Label)) (queue : List (Option ℕ)) → less ≤ bound
    → IsSearch rows from bound labels queue → IsSearch rows from less labels queue
search_lower rows from bound less labels queue le search = record {
  sound = search.sound;
  closed = λ v x label. elim (search.closed v x label) [
    | inl waits ↦ inl waits
    | inr (inl closed) ↦ inr (inl closed)
    | inr (inr far) ↦ inr (inr (omega (arith, le, far)))
  ];
}

-- what waits is too far, and no longer waits
pub search_stopped : (rows : Rows) (from bound n : ℕ) (labels : List (Option Label)) (queue : List (Option ℕ)) → n ≡ length queue
    → ((v s : ℕ) → Waits queue v s → bound ≤ s) → IsSearch rows from bound labels queue → IsSearch rows from bound labels (replicate n None)
search_stopped rows from bound n labels queue many far search = record {
  sound = record {
    room = length-replicate {A = Option ℕ} n None ∙ many ∙ search.sound.room;
    sums = search.sound.sums;
    comes = search.sound.comes;
    start = search.sound.start;
    waits = λ v s is. absurd (entry_none n v s is);
  };
  closed = λ v x label. elim (search.closed v x label) [
    | inl waits ↦ inr (inr (far v x.seconds waits))
    | inr done ↦ inr done
  ];
}

-- no key is less than the least
pub least_far : (bound : ℕ) (queue : List (Option ℕ)) (at least : ℕ) → bound ≤ least → IsLeastKey nat_cmp queue at least → (v s : ℕ) → Waits queue v s → bound ≤ s
least_far bound queue at least le is v s waits = elim (cases_lt s least) [
  | inl lt ↦
      let greater : Greater ≡ nat_cmp least s = nat_cmp_is least s Greater lt in
      elim (is.least v s waits) [
        | inl less ↦ let e : Greater ≡ Less = greater ∙ less in absurd (cc)
        | inr same ↦ let e : Greater ≡ Equal = greater ∙ same.0 in absurd (cc)
      ]
  | inr ge ↦ omega (arith, ge, le)
]

pub less_stopped : (labels : List (Option Label)) (queue : List (Option ℕ)) (n : ℕ) → work_left labels (replicate {A = Option ℕ} n None) ≤ work_left labels queue
less_stopped labels queue n = omega (arith, sum_by-replicate (waiting {A = ℕ}) n None)

-- no label rises

pub onward_same : (labels : List (Option Label)) (queue : List (Option ℕ)) → IsOnward labels queue labels queue
onward_same labels queue = record { falls = λ u m has. has; only = λ u y label. inl (label, λ k is. is) }

pub onward_marked : (labels : List (Option Label)) (queue : List (Option ℕ)) (some : List (Option Label)) (some_wait : List (Option ℕ)) (after : List (Option Label)) (then_waits : List (Option ℕ))
    (w : ℕ) (x : Label) → IsOnward labels queue some some_wait → IsMarked some some_wait after then_waits w x → IsOnward labels queue after then_waits
onward_marked labels queue some some_wait after then_waits w x before m = record {
  falls = λ u l has. m.falls u l (before.falls u l has);
  only = λ u y label. elim (m.only u y label) [
    | inl was ↦ elim (before.only u y was.0) [
      | inl first ↦ inl (first.0, λ k is. was.1 k (first.1 k is))
      | inr waits ↦ inr (was.1 y.seconds waits)
    ]
    | inr now ↦
        inr (subst (λ (n : ℕ). Waits then_waits n y.seconds) (sym now.0) (subst (λ (z : Label). Waits then_waits w z.seconds) (sym now.1.0) now.1.1))
  ];
}

-- no vertex waits
module _ (rows : Rows) (from bound : ℕ) (labels : List (Option Label)) (queue : List (Option ℕ)) (search : IsSearch rows from bound labels queue) (empty : IsEmpty queue) where
  closed_near : (v : ℕ) (x : Label) → HasLabel labels v x → x.seconds < bound → IsClosed rows labels v x.seconds
  closed_near v x label near = elim (search.closed v x label) [
    | inl waits ↦ absurd (some_or_none x.seconds (sym (empty v) ∙ waits))
    | inr (inl closed) ↦ closed
    | inr (inr far) ↦ absurd (omega (arith, near, far))
  ]

  onward_near : {a b m : ℕ} → IsSum (HasHalf rows) a b m → (l : ℕ) → l + m < bound → HasWithin labels a l → HasWithin labels b (l + m)
  onward_near none l near has = record { x = has.x; label = has.label; within = omega (arith, has.within) }
  onward_near {a} {b} {m} (more {v = v} {l = k} {m = n} arc rest) l near has =
      let next : HasWithin labels v (has.x.seconds + k) = closed_near a has.x has.label (omega (arith, has.within, near)) v k arc in
      let last : HasWithin labels b (has.x.seconds + k + n) = onward_near rest (has.x.seconds + k) (omega (arith, has.within, near)) next in
      record { x = last.x; label = last.label; within = omega (arith, last.within, has.within) }

  pub labelled_near : (v m : ℕ) → m < bound → IsSum (HasHalf rows) from v m → HasWithin labels v m
  labelled_near v m near sum =
      let has = onward_near sum 0 (omega (arith, near)) search.sound.start in
      record { x = has.x; label = has.label; within = omega (arith, has.within) }

-- and nothing is too far
pub least_from : (rows : Rows) (places : ℕ) (c : Climbs rows places) (from : ℕ) (labels : List (Option Label)) (queue : List (Option ℕ))
    → IsSearch rows from 18446744073709551615 labels queue → IsEmpty queue → IsLeastFrom (HasHalf rows) from labels
least_from rows places c from labels queue search empty =
    let all_labelled : (v m : ℕ) → IsSum (HasHalf rows) from v m → HasWithin labels v m = λ v m sum.
    labelled_near rows from 18446744073709551615 labels queue search empty v m (omega (arith, few_seconds rows places c sum)) sum in
    record {
      least = λ v x label. record {
        attained = search.sound.sums v x label;
        least = λ m sum.
            let has : HasWithin labels v m = all_labelled v m sum in
            omega (arith, has.within, ap (λ (y : Label). y.seconds) (label_same labels v x has.x label has.label));
      };
      all = all_labelled;
      comes = search.sound.comes;
    }

pub none_waits : {A : Type 0} (queue : List (Option A)) (n : ℕ) → length queue ≡ n → IsEmpty queue → queue ≡ replicate n None
none_waits {A} queue n many empty =
    same_lists queue (replicate n None) (many ∙ sym (length-replicate {A = Option A} n None))
    (λ k d lt. get_or_default queue k d None lt ∙ empty k ∙ sym (get_or-replicate {A = Option A} n k None d (omega arith)))

-- along one more half of a row that was lent

pub record IsNear (rows : Rows) (places : ℕ) (from v s : ℕ) (half : Half) : Type 0 where
  pub to : half.to.0 < places
  pub few : s + half.seconds ≤ 4000000000000000000

near_at : (rows : Rows) (places : ℕ) (c : Climbs rows places) (from bound v s i j : ℕ) (d : Half) (labels : List (Option Label)) (queue : List (Option ℕ))
    → v + 1 < length rows.first.items → i < length (row_of rows v) → IsGoing rows from bound v s j labels queue → IsNear rows places from v s (slice_index_or (row_of rows v) i d)
near_at rows places c from bound v s i j d labels queue exists lt going =
    let half : HasHalf rows v (slice_index_or (row_of rows v) i d).to.0 (slice_index_or (row_of rows v) i d).seconds = half_stands rows v i d exists lt in
    let sum : IsSum (HasHalf rows) from (slice_index_or (row_of rows v) i d).to.0 (going.here.0.seconds + (slice_index_or (row_of rows v) i d).seconds) =
    IsSum-append (going.sound.sums v going.here.0 going.here.1.0) (IsSum-one half) in
    record {
      to = c.ends v (slice_index_or (row_of rows v) i d).to.0 (slice_index_or (row_of rows v) i d).seconds half;
      few = omega (arith, few_seconds rows places c sum, going.here.1.1);
    }

pub near : (rows : Rows) (places : ℕ) (c : Climbs rows places) (from bound v s i j : ℕ) (d : Half) (labels : List (Option Label)) (queue : List (Option ℕ)) (row : List Half)
    → row ≡ row_of rows v → v + 1 < length rows.first.items → i < length row → IsGoing rows from bound v s j labels queue → IsNear rows places from v s (slice_index_or row i d)
near rows places c from bound v s i j d labels queue row e exists lt going =
    subst (λ (r : List Half). IsNear rows places from v s (slice_index_or r i d)) (sym e)
    (near_at rows places c from bound v s i j d labels queue exists (subst (λ (r : List Half). i < length r) e lt) going)

pub going_more : (rows : Rows) (places : ℕ) (c : Climbs rows places) (from bound s i : ℕ) (at : NodeNo) (d : Half) (labels : List (Option Label)) (queue : List (Option ℕ)) (row : List Half)
    → row ≡ row_of rows at.0 → at.0 + 1 < length rows.first.items → i < length row → length labels ≡ places
    → IsGoing rows from bound at.0 s i labels queue
    → IsGoing rows from bound at.0 s (i + 1)
    (labels_with labels (slice_index_or row i d).to.0 (record { seconds = s + (slice_index_or row i d).seconds; parent = at }))
    (queue_with labels queue (slice_index_or row i d).to.0 (record { seconds = s + (slice_index_or row i d).seconds; parent = at }))
going_more rows places c from bound s i at d labels queue row e exists lt many going =
    subst (λ (r : List Half). IsGoing rows from bound at.0 s (i + 1)
    (labels_with labels (slice_index_or r i d).to.0 (record { seconds = s + (slice_index_or r i d).seconds; parent = at }))
    (queue_with labels queue (slice_index_or r i d).to.0 (record { seconds = s + (slice_index_or r i d).seconds; parent = at }))) (sym e)
    (let low : i < length (row_of rows at.0) = subst (λ (r : List Half). i < length r) e lt in
    let h : Half = slice_index_or (row_of rows at.0) i d in
    let x : Label = record { seconds = s + (slice_index_or (row_of rows at.0) i d).seconds; parent = at } in
    let n = near_at rows places c from bound at.0 s i i d labels queue exists low going in
    going_marked rows (λ p q l half same. omega (arith, c.climbs p q l half, ap c.rank same)) from bound at.0 s i d x labels queue
    (labels_with labels (slice_index_or (row_of rows at.0) i d).to.0 x) (queue_with labels queue (slice_index_or (row_of rows at.0) i d).to.0 x)
    (half_stands rows at.0 i d exists low) low refl refl going
    (marked labels queue (slice_index_or (row_of rows at.0) i d).to.0 x (omega (arith, n.to, many)) going.sound.room (omega (arith, n.few))))
