-- The steps of the search.
use Rattle.std.proofs.Common.{◌≡◌, ◌≢◌, ℕ, zero, suc, ◌+◌, ◌*◌, ◌<◌, ◌≤◌, ◌⊎◌, false, cond, List, [], ◌∷◌, Option, Some, None, length, slice_index_or, slice_set, refl, sym, ap, ◌∙◌, subst, inl, inr, arith}
use Rattle.std.specs.Prelude.{is_none}
use Rattle.std.proofs.lemmas.Bool.{cases_eq}
use Rattle.std.proofs.lemmas.List.{get_or-set_same, get_or-set_other, length-set}
use Rattle.std.proofs.lemmas.List.Sums.{sum_by-set, count_by-le-length}
use Rattle.std.proofs.lemmas.List.Elements.{Contains-get_or}
use Rattle.walk_laws.specs.Sums.{IsSum, longest}
use Rattle.walk_laws.specs.Sums.IsSum.{none, more}
use Rattle.walk_laws.specs.declared.CoreArc.{CoreArc}
use Rattle.walk_laws.proofs.SumLemmas.{IsSum-append, IsSum-one}
use Rattle.walk_core.specs.Core.{Contraction, IsCoreArc, core_row}
use Rattle.core_search.specs.declared.label.Label.{Label}
use Rattle.core_search.specs.Label.{IsUpto, after, label_at}
use Rattle.core_search.specs.Spread.{Comes, HasLeastLabel, IsCoreWalk, AreShort, IsSpread}
use Rattle.core_search.specs.Waiting.{HasNone, IsPut, IsTaken}
use Rattle.core_search.specs.Settle.{HasUpto, free, bound, IsSound, IsFollowed, IsSearch, IsLeaving, IsOffered}
use Rattle.core_search.specs.Settle.IsOffered.{is_settled, is_put}
use Rattle.core_search.proofs.OrderLemmas.{Upto-refl, Upto-trans, Upto-after, Upto-later, after-zero, after-sum}
use Rattle.core_search.proofs.WaitLemmas.{label_low}

one_label : (labels : List (Option Label)) (v : ℕ) (x y : Label) → label_at labels v ≡ Some x → label_at labels v ≡ Some y → x ≡ y
one_label labels v x y f g = let e : Some x ≡ Some y = sym f ∙ g in cc

no_label : (x : Label) → None ≡ Some x → ⊥
no_label x e = cc

pub HasUpto-over : (settled waiting : List (Option Label)) (v : ℕ) (x z : Label) → IsUpto x z → HasUpto settled waiting v x → HasUpto settled waiting v z
HasUpto-over settled waiting v x z upto has = record { y = has.y; held = has.held; upto = Upto-trans has.y x z has.upto upto }

-- what waits after a label came
put_cases : (old new : List (Option Label)) (v : ℕ) (x : Label) → IsPut old new v x → (u : ℕ) (y : Label) → label_at new u ≡ Some y
    → (label_at old u ≡ Some y) ⊎ ((u ≡ v) × (y ≡ x))
put_cases old new v x put u y there = elim (cases_eq u v) [
  | inl e ↦
      let same : put.y ≡ y = one_label new v put.y y put.held (ap (label_at new) (sym e) ∙ there) in
      elim put.is [
        | inl is ↦ inr (e, sym same ∙ is)
        | inr stood ↦ inl (ap (label_at old) e ∙ stood ∙ ap (λ (w : Label). Some w) same)
      ]
  | inr ne ↦ inl (sym (put.others u ne) ∙ there)
]

-- a settled vertex keeps its label
pub offered_settled : (settled waiting : List (Option Label)) (v : ℕ) (x : Label) (r : Option Label) → r ≡ label_at settled v → is_none r ≡ false → IsOffered settled waiting waiting v x
offered_settled settled waiting v x None is some = absurd (cc)
offered_settled settled waiting v x (Some y) is some = is_settled y (sym is) refl

module _ (settled waiting after_it : List (Option Label)) (v : ℕ) (x : Label) where
  pub offered_has : IsOffered settled waiting after_it v x → (u : ℕ) (z : Label) → HasUpto settled waiting u z → HasUpto settled after_it u z
  offered_has (is_settled y there same) u z has = subst (λ (w : List (Option Label)). HasUpto settled w u z) (sym same) has
  offered_has (is_put free_yet put) u z has = elim has.held [
    | inl there ↦ record { y = has.y; held = inl there; upto = has.upto }
    | inr waits ↦ elim (cases_eq u v) [
      | inl e ↦
          let lower = put.lowered has.y (ap (label_at waiting) (sym e) ∙ waits) in
          record { y = put.y; held = inr (ap (label_at after_it) e ∙ put.held); upto = Upto-trans put.y has.y z lower has.upto }
      | inr ne ↦ record { y = has.y; held = inr (put.others u ne ∙ waits); upto = has.upto }
    ]
  ]

  pub offered_reaches : IsOffered settled waiting after_it v x → ((y : Label) → label_at settled v ≡ Some y → IsUpto y x) → HasUpto settled after_it v x
  offered_reaches (is_settled y there same) last = record { y = y; held = inl there; upto = last y there }
  offered_reaches (is_put free_yet put) last = record { y = put.y; held = inr put.held; upto = put.upto }

  offered_cases : IsOffered settled waiting after_it v x → (u : ℕ) (y : Label) → label_at after_it u ≡ Some y
      → (label_at waiting u ≡ Some y) ⊎ ((u ≡ v) × (y ≡ x) × (label_at settled v ≡ None))
  offered_cases (is_settled z there same) u y is = inl (ap (λ (w : List (Option Label)). label_at w u) (sym same) ∙ is)
  offered_cases (is_put free_yet put) u y is = elim (put_cases waiting after_it v x put u y is) [
    | inl old ↦ inl old
    | inr new ↦ inr (new.0, new.1, free_yet)
  ]

  offered_many : IsOffered settled waiting after_it v x → length after_it ≡ length waiting
  offered_many (is_settled y there same) = ap length same
  offered_many (is_put free_yet put) = put.many

  module _ (core : Contraction) (old : List (Option Label)) where
    sound_offered : IsOffered settled waiting after_it v x → Comes (IsCoreWalk core) old v x → ((u : ℕ) (y : Label) → label_at settled u ≡ Some y → IsUpto y x)
        → x.seconds + longest * free settled ≤ bound core → IsSound core old settled waiting → IsSound core old settled after_it
    sound_offered offered comes last short sound = record {
      many = sound.many;
      many_wait = offered_many offered ∙ sound.many_wait;
      settled_come = sound.settled_come;
      waiting_come = λ u y is. elim (offered_cases offered u y is) [
        | inl before ↦ sound.waiting_come u y before
        | inr now ↦
            subst (λ (n : ℕ). Comes (IsCoreWalk core) old n y) (sym now.0) (subst (λ (z : Label). Comes (IsCoreWalk core) old v z) (sym now.1) comes)
      ];
      stood = λ u y is. offered_has offered u y (sound.stood u y is);
      in_order = λ u w y z there waits. elim (offered_cases offered w z waits) [
        | inl before ↦ sound.in_order u w y z there before
        | inr now ↦ subst (λ (k : Label). IsUpto y k) (sym now.1) (last u y there)
      ];
      apart = λ u y z there waits. elim (offered_cases offered u z waits) [
        | inl before ↦ sound.apart u y z there before
        | inr now ↦ no_label y (sym now.2 ∙ ap (label_at settled) (sym now.0) ∙ there)
      ];
      short = λ u y waits. elim (offered_cases offered u y waits) [
        | inl before ↦ sound.short u y before
        | inr now ↦ subst (λ (k : Label). k.seconds + longest * free settled ≤ bound core) (sym now.1) short
      ];
    }

-- a label goes along one more arc
Comes-more : (core : Contraction) (old : List (Option Label)) (v q l : ℕ) (x : Label) → IsCoreArc core v q l → Comes (IsCoreWalk core) old v x → Comes (IsCoreWalk core) old q (after x l)
Comes-more core old v q l x arc comes = record {
  from = comes.from;
  x = comes.x;
  m = comes.m + l;
  stood = comes.stood;
  leads = IsSum-append comes.leads (IsSum-one arc);
  is = ap (λ (y : Label). after y l) comes.is ∙ after-sum comes.x comes.m l;
}

followed_offered : (core : Contraction) (settled waiting after_it : List (Option Label)) (v u : ℕ) (x y : Label) → IsOffered settled waiting after_it v x
    → IsFollowed core settled waiting u y → IsFollowed core settled after_it u y
followed_offered core settled waiting after_it v u x y offered followed = λ q l arc. offered_has settled waiting after_it v x offered q (after y l) (followed q l arc)

module _ (core : Contraction) (old settled waiting : List (Option Label)) (v : ℕ) (x : Label) (i : ℕ) (leaving : IsLeaving core old settled waiting v x i) where
  pub leaving_more : (after_it : List (Option Label)) (d : CoreArc) → i < length (core_row core v) → (slice_index_or (core_row core v) i d).seconds ≤ longest
      → IsOffered settled waiting after_it (slice_index_or (core_row core v) i d).to.0 (after x (slice_index_or (core_row core v) i d).seconds)
      → IsLeaving core old settled after_it v x (i + 1)
  leaving_more after_it d low few offered =
      let arc : CoreArc = slice_index_or (core_row core v) i d in
      let stands : IsCoreArc core v (slice_index_or (core_row core v) i d).to.0 (slice_index_or (core_row core v) i d).seconds =
      ((slice_index_or (core_row core v) i d).middle.0, Contains-get_or (core_row core v) i d low) in
      let to = (slice_index_or (core_row core v) i d).to.0 in
      let y = after x (slice_index_or (core_row core v) i d).seconds in
      let last : (u : ℕ) (z : Label) → label_at settled u ≡ Some z → IsUpto z (after x (slice_index_or (core_row core v) i d).seconds) =
      λ u z there. Upto-trans z x y (leaving.last u z there) (Upto-later x (slice_index_or (core_row core v) i d).seconds) in
      record {
        sound = sound_offered settled waiting after_it to y core old offered
            (Comes-more core old v to (slice_index_or (core_row core v) i d).seconds x stands (leaving.sound.settled_come v x leaving.here)) last
            (omega (arith, leaving.short, few)) leaving.sound;
        here = leaving.here;
        last = leaving.last;
        short = leaving.short;
        others = λ u z ne there. followed_offered core settled waiting after_it to u y z offered (leaving.others u z ne there);
        passed = λ k e lt. elim (cases_eq k i) [
          | inl is ↦
              let same : slice_index_or (core_row core v) k e ≡ slice_index_or (core_row core v) i d =
              ap (λ (n : ℕ). slice_index_or (core_row core v) n e) is ∙ any_default (core_row core v) i e d low in
              subst (λ (a : CoreArc). HasUpto settled after_it a.to.0 (after x a.seconds)) (sym same) (offered_reaches settled waiting after_it to y offered (last to))
          | inr ne ↦
              offered_has settled waiting after_it to y offered (slice_index_or (core_row core v) k e).to.0 (after x (slice_index_or (core_row core v) k e).seconds)
              (leaving.passed k e (omega (arith, lt, ne)))
        ];
      }
    where
      any_default : (row : List CoreArc) (k : ℕ) (e f : CoreArc) → k < length row → slice_index_or row k e ≡ slice_index_or row k f
      any_default [] k e f lt = absurd (omega arith)
      any_default (a ∷ row) zero e f lt = refl
      any_default (a ∷ row) (suc k) e f lt = any_default row k e f (omega arith)

  pub search_left : length (core_row core v) ≤ i → IsSearch core old settled waiting
  search_left all = record {
    sound = leaving.sound;
    followed = λ u y there. elim (cases_eq u v) [
      | inl e ↦
          let is : label_at settled v ≡ Some y = ap (label_at settled) (sym e) ∙ there in
          let same : x ≡ y = one_label settled v x y leaving.here is in
          λ q l arc.
          let mine : IsCoreArc core v q l = subst (λ (n : ℕ). IsCoreArc core n q l) e arc in
          let a : CoreArc = record { to = record { 0 = q }; seconds = l; middle = record { 0 = mine.0 } } in
          let at : HasUpto settled waiting q (after x l) =
          subst (λ (z : CoreArc). HasUpto settled waiting z.to.0 (after x z.seconds)) mine.1.2 (leaving.passed mine.1.0 a (omega (arith, mine.1.1, all))) in
          subst (λ (z : Label). HasUpto settled waiting q (after z l)) same at
      | inr ne ↦ leaving.others u y ne there
    ];
  }

-- the least label is settled
module _ (core : Contraction) (old settled waiting waiting' : List (Option Label)) (v : ℕ) (x : Label) (search : IsSearch core old settled waiting) (taken : IsTaken waiting waiting' v x) where
  inside : v < length settled
  inside = omega (arith, label_low waiting v x taken.held, search.sound.many, search.sound.many_wait)

  free_by : (held : Option Label) → label_at settled v ≡ held → label_at settled v ≡ None
  free_by None is = is
  free_by (Some y) is = absurd (search.sound.apart v y x is taken.held)

  not_yet : label_at settled v ≡ None
  not_yet = free_by (label_at settled v) refl

  here : label_at (slice_set settled v (Some x)) v ≡ Some x
  here = get_or-set_same settled v (Some x) None inside

  elsewhere : (u : ℕ) → u ≢ v → label_at (slice_set settled v (Some x)) u ≡ label_at settled u
  elsewhere u ne = get_or-set_other settled v u (Some x) None ne

  settled_cases : (u : ℕ) (y : Label) → label_at (slice_set settled v (Some x)) u ≡ Some y → ((u ≡ v) × (y ≡ x)) ⊎ (label_at settled u ≡ Some y)
  settled_cases u y is = elim (cases_eq u v) [
    | inl e ↦ inl (e, one_label (slice_set settled v (Some x)) v y x (ap (label_at (slice_set settled v (Some x))) (sym e) ∙ is) here)
    | inr ne ↦ inr (sym (elsewhere u ne) ∙ is)
  ]

  waited : (u : ℕ) (y : Label) → label_at waiting' u ≡ Some y → (u ≢ v) × (label_at waiting u ≡ Some y)
  waited u y is = elim (cases_eq u v) [
    | inl e ↦ absurd (no_label y (sym taken.here ∙ ap (label_at waiting') (sym e) ∙ is))
    | inr ne ↦ (ne, sym (taken.others u ne) ∙ is)
  ]

  has_moved : (u : ℕ) (z : Label) → HasUpto settled waiting u z → HasUpto (slice_set settled v (Some x)) waiting' u z
  has_moved u z has = elim has.held [
    | inl there ↦
        let ne : u ≢ v = λ e. no_label has.y (sym not_yet ∙ ap (label_at settled) (sym e) ∙ there) in
        record { y = has.y; held = inl (elsewhere u ne ∙ there); upto = has.upto }
    | inr waits ↦ elim (cases_eq u v) [
      | inl e ↦
          let same : x ≡ has.y = one_label waiting v x has.y taken.held (ap (label_at waiting) (sym e) ∙ waits) in
          record { y = x; held = inl (ap (label_at (slice_set settled v (Some x))) e ∙ here); upto = subst (λ (w : Label). IsUpto w z) (sym same) has.upto }
      | inr ne ↦ record { y = has.y; held = inr (taken.others u ne ∙ waits); upto = has.upto }
    ]
  ]

  pub fewer_free : free (slice_set settled v (Some x)) + 1 ≡ free settled
  fewer_free =
      let one : ◌≡◌ {A = ℕ} (cond (is_none (label_at settled v)) 1 0) 1 = ap (λ (o : Option Label). cond (is_none o) 1 0) not_yet in
      omega (arith, sum_by-set (λ (o : Option Label). cond (is_none o) 1 0) settled v (Some x) None inside, one)

  pub leaving_first : IsLeaving core old (slice_set settled v (Some x)) waiting' v x 0
  leaving_first = record {
    sound = record {
      many = length-set settled v (Some x) ∙ search.sound.many;
      many_wait = taken.many ∙ search.sound.many_wait;
      settled_come = λ u y is. elim (settled_cases u y is) [
        | inl now ↦
            subst (λ (n : ℕ). Comes (IsCoreWalk core) old n y) (sym now.0)
            (subst (λ (z : Label). Comes (IsCoreWalk core) old v z) (sym now.1) (search.sound.waiting_come v x taken.held))
        | inr before ↦ search.sound.settled_come u y before
      ];
      waiting_come = λ u y is. search.sound.waiting_come u y (waited u y is).1;
      stood = λ u y is. has_moved u y (search.sound.stood u y is);
      in_order = λ u w y z is waits.
          let before = waited w z waits in
          elim (settled_cases u y is) [
            | inl now ↦ subst (λ (k : Label). IsUpto k z) (sym now.1) (taken.least w z before.1)
            | inr there ↦ search.sound.in_order u w y z there before.1
          ];
      apart = λ u y z is waits.
          let before = waited u z waits in
          elim (settled_cases u y is) [
            | inl now ↦ before.0 now.0
            | inr there ↦ search.sound.apart u y z there before.1
          ];
      short = λ u y is. omega (arith, search.sound.short u y (waited u y is).1, fewer_free);
    };
    here = here;
    last = λ u y is. elim (settled_cases u y is) [
      | inl now ↦ inl now.1
      | inr there ↦ search.sound.in_order u v y x there taken.held
    ];
    short = omega (arith, search.sound.short v x taken.held, fewer_free);
    others = λ u y ne is. elim (settled_cases u y is) [
      | inl now ↦ absurd (ne now.0)
      | inr there ↦ λ q l arc. has_moved q (after y l) (search.followed u y there q l arc)
    ];
    passed = λ k d lt. absurd (omega arith);
  }

-- all labels wait
pub search_first : (core : Contraction) (settled waiting : List (Option Label)) → HasNone settled → length settled ≡ core.nodes + 1 → length waiting ≡ core.nodes + 1
    → AreShort waiting → IsSearch core waiting settled waiting
search_first core settled waiting none_settled many many_wait short = record {
  sound = record {
    many = many;
    many_wait = many_wait;
    settled_come = λ v x is. absurd (no_label x (sym (none_settled v) ∙ is));
    waiting_come = λ v x is. record { from = v; x = x; m = 0; stood = is; leads = none; is = sym (after-zero x) };
    stood = λ v x is. record { y = x; held = inr is; upto = Upto-refl x };
    in_order = λ v u x y is waits. absurd (no_label x (sym (none_settled v) ∙ is));
    apart = λ v x y is waits. absurd (no_label x (sym (none_settled v) ∙ is));
    short = λ v x is. omega (arith, short v x is, count_by-le-length (λ (o : Option Label). is_none o) settled, many);
  };
  followed = λ v x is. absurd (no_label x (sym (none_settled v) ∙ is));
}

-- nothing waits any more
module _ (core : Contraction) (old settled waiting : List (Option Label)) (search : IsSearch core old settled waiting) (idle : HasNone waiting) where
  held_of : (v : ℕ) (z : Label) → HasUpto settled waiting v z → label_at settled v ≡ None → ⊥
  held_of v z has none_here = elim has.held [
    | inl there ↦ no_label has.y (sym none_here ∙ there)
    | inr waits ↦ no_label has.y (sym (idle v) ∙ waits)
  ]

  along : {a b m : ℕ} (z : Label) → IsSum (IsCoreArc core) a b m → HasUpto settled waiting a z → HasUpto settled waiting b (after z m)
  along {a} z none has = subst (λ (y : Label). HasUpto settled waiting a y) (sym (after-zero z)) has
  along {a} {b} z (more {v = v} {l = l} {m = m} arc rest) has = elim has.held [
    | inl there ↦
        let next : HasUpto settled waiting v (after z l) =
        HasUpto-over settled waiting v (after has.y l) (after z l) (Upto-after has.y z l has.upto) (search.followed a has.y there v l arc) in
        subst (λ (y : Label). HasUpto settled waiting b y) (after-sum z l m) (along (after z l) rest next)
    | inr waits ↦ absurd (no_label has.y (sym (idle a) ∙ waits))
  ]

  reached : (v : ℕ) (y : Label) → Comes (IsCoreWalk core) old v y → HasUpto settled waiting v y
  reached v y comes =
      subst (λ (z : Label). HasUpto settled waiting v z) (sym comes.is) (along comes.x comes.leads (search.sound.stood comes.from comes.x comes.stood))

  least_by : (v : ℕ) (r : Option Label) → label_at settled v ≡ r → HasLeastLabel (IsCoreWalk core) old v r
  least_by v None is = λ y comes. held_of v y (reached v y comes) is
  least_by v (Some x) is = record {
    attained = search.sound.settled_come v x is;
    least = λ y comes.
        let has = reached v y comes in
        elim has.held [
          | inl there ↦ subst (λ (z : Label). IsUpto z y) (one_label settled v has.y x there is) has.upto
          | inr waits ↦ absurd (no_label has.y (sym (idle v) ∙ waits))
        ];
  }

  pub spread_done : IsSpread core old settled
  spread_done v = least_by v (label_at settled v) refl
