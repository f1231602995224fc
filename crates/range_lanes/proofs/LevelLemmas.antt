-- One label falls.
use Rattle.std.proofs.Common.{◌≡◌, ◌≢◌, ℕ, zero, suc, ◌+◌, ◌-◌, ◌^◌, ◌<◌, ◌≤◌, inl, inr, Bool, true, false, List, [], ◌∷◌, length, set, get_or, get_or-set_same, get_or-set_other, refl, sym, ap, ◌∙◌, subst, arith, Option, Some}
use Rattle.std.specs.Prelude.{slice_get, slice_index, slice_index_or, vec_len}
use Rattle.std.proofs.lemmas.Bool.{cases_eq}
use Rattle.std.proofs.lemmas.Option.{same_Some}
use Rattle.move_model.specs.declared.network.StopNo.{StopNo}
use Rattle.std.proofs.lemmas.List.{length-set}
use Rattle.move_model.specs.Listed.{HasEntry}
use Rattle.raptor_rounds.specs.Ways.{Query}
use Rattle.range_lanes.specs.declared.level.Step.{Step}
use Rattle.range_lanes.specs.declared.level.Level.{Level}
use Rattle.range_lanes.specs.Levels.{Arrives, WalksBy, EndsBy, IsBestFrom, IsSound, Covers, Falls, LeftFalls}

-- an entry of a list of numbers that was set to a lesser one
pub set_low : (xs : List ℕ) (i v x : ℕ) → v ≤ slice_index xs i → slice_index (set xs i v) x ≤ slice_index xs x
set_low [] i v x h = omega arith
set_low (y ∷ xs) zero v zero h = h
set_low (y ∷ xs) zero v (suc x) h = omega arith
set_low (y ∷ xs) (suc i) v zero h = omega arith
set_low (y ∷ xs) (suc i) v (suc x) h = set_low xs i v x h

pub set_marks : (xs : List Bool) (i x : ℕ) → slice_index_or xs x false ≡ true → slice_index_or (set xs i true) x false ≡ true
set_marks [] i x h = h
set_marks (y ∷ xs) zero zero h = refl
set_marks (y ∷ xs) zero (suc x) h = h
set_marks (y ∷ xs) (suc i) zero h = h
set_marks (y ∷ xs) (suc i) (suc x) h = set_marks xs i x h

pub set_get : {X : Type 0} (xs : List X) (i : ℕ) (x : X) → i < length xs → slice_get (set xs i x) i ≡ Some x
set_get [] i x lt = absurd (omega (arith, lt))
set_get (y ∷ xs) zero x lt = refl
set_get (y ∷ xs) (suc i) x lt = set_get xs i x (omega (arith, lt))

pub set_get_other : {X : Type 0} (xs : List X) (i j : ℕ) (x : X) → i ≢ j → slice_get (set xs i x) j ≡ slice_get xs j
set_get_other [] i j x other = refl
set_get_other (y ∷ xs) zero zero x other = absurd (other refl)
set_get_other (y ∷ xs) zero (suc j) x other = refl
set_get_other (y ∷ xs) (suc i) zero x other = refl
set_get_other (y ∷ xs) (suc i) (suc j) x other = set_get_other xs i j x (λ e. other (omega (arith, e)))

-- where no mark stands after, nothing was set
pub set_unmarked : (xs : List Bool) (i x : ℕ) → i < length xs → slice_index_or (set xs i true) x false ≡ false → i ≢ x
set_unmarked xs i x lt h e = differ (sym (get_or-set_same xs i true false lt) ∙ ap (λ k. get_or (set xs i true) k false) e ∙ h)
  where
    differ : true ≡ false → ⊥
    differ e = cc

pub set_marked : (xs : List Bool) (i x : ℕ) → slice_index_or (set xs i true) x false ≡ true → i ≢ x → slice_index_or xs x false ≡ true
set_marked xs i x h other = sym (get_or-set_other xs i x true false (λ e. other (sym e))) ∙ h

-- what taking a label does
pub record IsTaken (last : List (Option ℕ)) (old new : Level) (stop : StopNo) (second : ℕ) (step : Step) (fresh fresh' : List Bool) : Type 0 where
  pub left : new.left.items ≡ set old.left.items stop.0 second
  pub steps : new.steps.items ≡ set old.steps.items stop.0 step
  pub marks : fresh' ≡ set fresh stop.0 true
  pub left_length : vec_len new.left ≡ vec_len old.left
  pub steps_length : vec_len new.steps ≡ vec_len old.steps
  pub ready : new.ready ≡ old.ready
  pub from : new.from ≡ old.from
  pub falls : new.best ≤ old.best
  pub known : (m : ℕ) → HasEntry last stop m → new.best ≤ second + m
  pub sound : IsBestFrom last old new stop second
  pub earlier : second < slice_index old.left.items stop.0
  pub sure : second < 2 ^ 32 - 1
  pub within : stop.0 < length old.left.items
  pub steps_within : stop.0 < length old.steps.items
  pub fresh_within : stop.0 < length fresh

module _ (last : List (Option ℕ)) (old new : Level) (stop : StopNo) (second : ℕ) (step : Step) (fresh fresh' : List Bool)
    (t : IsTaken last old new stop second step fresh fresh') where
  pub taken_label : slice_index new.left.items stop.0 ≡ second
  taken_label = ap (λ (xs : List ℕ). slice_index xs stop.0) t.left ∙ get_or-set_same old.left.items stop.0 second 0 t.within

  taken_other : (x : ℕ) → stop.0 ≢ x → slice_index new.left.items x ≡ slice_index old.left.items x
  taken_other x other = ap (λ (xs : List ℕ). slice_index xs x) t.left ∙ get_or-set_other old.left.items stop.0 x second 0 (λ e. other (sym e))

  taken_low : (x : ℕ) → slice_index new.left.items x ≤ slice_index old.left.items x
  taken_low x = subst (λ (xs : List ℕ). slice_index xs x ≤ slice_index old.left.items x) (sym t.left) (set_low old.left.items stop.0 second x (omega (arith, t.earlier)))

  taken_falls : Falls old new
  taken_falls = record { left = taken_low; ready = λ x. omega (arith, ap (λ v. slice_index v.items x) t.ready); best = t.falls }

  pub taken_left_falls : LeftFalls old new fresh fresh'
  taken_left_falls = record {
    falls = taken_falls;
    left_length = t.left_length;
    steps_length = t.steps_length;
    ready_same = t.ready;
    from_same = t.from;
    fresh_length = ap length t.marks ∙ length-set fresh stop.0 true;
    fresh_stays = λ x h. subst (λ (xs : List Bool). slice_index_or xs x false ≡ true) (sym t.marks) (set_marks fresh stop.0 x h);
    others_stay = λ x h. taken_other x (set_unmarked fresh stop.0 x t.fresh_within (subst (λ (xs : List Bool). slice_index_or xs x false ≡ false) t.marks h));
    sure = λ x h. elim (cases_eq stop.0 x) [
      | inl e ↦ inr (omega (arith, ap (λ k. slice_index new.left.items k) e, taken_label, t.sure))
      | inr other ↦ inl (set_marked fresh stop.0 x (subst (λ (xs : List Bool). slice_index_or xs x false ≡ true) t.marks h) other)
    ];
  }

  pub taken_covers : Covers last old → Covers last new
  taken_covers was = record {
    each = λ y m sure entry. elim (cases_eq stop.0 y.0) [
      | inl e ↦
          let same : stop ≡ y = ap (λ (k : ℕ). let v : StopNo = record { 0 = k } in v) e in
          omega (arith, t.known m (subst (λ v. HasEntry last v m) (sym same) entry), taken_label, ap (λ k. slice_index new.left.items k) e)
      | inr other ↦ omega (arith, t.falls, taken_other y.0 other, was.each y m (omega (arith, sure, taken_other y.0 other)) entry)
    ];
  }

  walks_on : (q : Query) (z x : StopNo) (r : ℕ) → WalksBy q old z x r → WalksBy q new z x r
  walks_on q z x r w = record { seconds = w.seconds; transfer = w.transfer; left = omega (arith, w.left, taken_low z.0); by_second = omega (arith, w.by_second, taken_low z.0) }

  pub taken_sound : (q : Query) (below : List Level) → q.last ≡ last → Arrives q below stop second step → IsSound q below old → IsSound q below new
  taken_sound q below last_is arrives was = record {
    left = λ y st is sure. elim (cases_eq stop.0 y.0) [
      | inl e ↦
          let same : stop ≡ y = ap (λ (k : ℕ). let v : StopNo = record { 0 = k } in v) e in
          let here : slice_get new.steps.items stop.0 ≡ Some step = ap (λ (xs : List Step). slice_get xs stop.0) t.steps ∙ set_get old.steps.items stop.0 step t.steps_within in
          let step_is : step ≡ st = same_Some step st (sym here ∙ ap (λ k. slice_get new.steps.items k) e ∙ is) in
          subst (λ v. Arrives q below v (slice_index new.left.items v.0) st) same
          (subst (λ v. Arrives q below stop (slice_index new.left.items stop.0) v) step_is
          (subst (λ a. Arrives q below stop a step) (sym taken_label) arrives))
      | inr other ↦
          let there : slice_get old.steps.items y.0 ≡ Some st = sym (set_get_other old.steps.items stop.0 y.0 step other) ∙ ap (λ (xs : List Step). slice_get xs y.0) (sym t.steps) ∙ is in
          subst (λ a. Arrives q below y a st) (sym (taken_other y.0 other)) (was.left y st there (omega (arith, sure, taken_other y.0 other)))
    ];
    ready = record {
      each = λ x z at sure.
          subst (λ r. WalksBy q new z x r) (sym (ap (λ v. slice_index v.items x.0) t.ready))
          (walks_on q z x _ (was.ready.each x z (ap (λ v. slice_get v.items x.0) (sym t.from) ∙ at) (omega (arith, sure, ap (λ v. slice_index v.items x.0) t.ready))));
    };
    best = λ lt. best_of lt t.sound;
  }
    where
      best_of : new.best < 2 ^ 64 - 1 → IsBestFrom last old new stop second → EndsBy q new new.best_stop new.best
      best_of lt (IsBestFrom.stays e f) =
          let b = was.best (omega (arith, lt, e)) in
          let b' : EndsBy q new old.best_stop old.best = record { seconds = b.seconds; walk = b.walk; left = omega (arith, b.left, taken_low old.best_stop.0); by_second = omega (arith, b.by_second, taken_low old.best_stop.0) } in
          subst (λ z. EndsBy q new z new.best) (sym f) (subst (λ a. EndsBy q new old.best_stop a) (sym e) b')
      best_of lt (IsBestFrom.comes m entry e f) =
          subst (λ z. EndsBy q new z new.best) (sym f)
          (record { seconds = m; walk = subst (λ row. HasEntry row stop m) (sym last_is) entry; left = omega (arith, taken_label, t.sure); by_second = omega (arith, taken_label, e) })

pub best_from : (last : List (Option ℕ)) (old mid new : Level) (stop : StopNo) (second : ℕ) → mid.best ≡ old.best → mid.best_stop ≡ old.best_stop
    → IsBestFrom last mid new stop second → IsBestFrom last old new stop second
best_from last old mid new stop second e f (IsBestFrom.stays g h) = IsBestFrom.stays (g ∙ e) (h ∙ f)
best_from last old mid new stop second e f (IsBestFrom.comes m entry g h) = IsBestFrom.comes m entry g h
