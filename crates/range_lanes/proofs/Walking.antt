-- Transfers.
use Rattle.std.proofs.Common.{◌≡◌, ◌≢◌, ℕ, ◌+◌, ◌-◌, ◌^◌, ◌<◌, ◌≤◌, inl, inr, Bool, true, false, List, length, set, get_or-set_same, get_or-set_other, refl, sym, ap, ◌∙◌, subst, arith, Some}
use Rattle.std.specs.Prelude.{slice_get, slice_index, slice_index_or, vec_len}
use Rattle.std.proofs.lemmas.Bool.{cases_eq}
use Rattle.std.proofs.lemmas.List.{length-set}
use Rattle.std.proofs.lemmas.Option.{same_Some}
use Rattle.move_model.specs.declared.network.StopNo.{StopNo}
use Rattle.raptor_rounds.specs.Ways.{Query}
use Rattle.range_lanes.specs.declared.level.Level.{Level}
use Rattle.range_lanes.specs.Levels.{Reached, Falls, ReadyFalls, Fits, Arrives, WalksBy, EndsBy, IsSound}
use Rattle.range_lanes.proofs.Falling.{falls_on, falls_same, not_true}
use Rattle.range_lanes.proofs.LevelLemmas.{set_low, set_marks, set_unmarked, set_get, set_get_other}

pub ready_falls_same : (a : Level) (better : List Bool) → ReadyFalls a a better better
ready_falls_same a better = record {
  falls = falls_same a;
  ready_length = refl;
  from_length = refl;
  left_same = refl;
  steps_same = refl;
  best_same = refl;
  best_stop_same = refl;
  better_length = refl;
  better_stays = λ x h. h;
  others_stay = λ x h. refl;
}

pub ready_falls_on : (a b c : Level) (f g h : List Bool) → ReadyFalls a b f g → ReadyFalls b c g h → ReadyFalls a c f h
ready_falls_on a b c f g h first next = record {
  falls = falls_on a b c first.falls next.falls;
  ready_length = next.ready_length ∙ first.ready_length;
  from_length = next.from_length ∙ first.from_length;
  left_same = next.left_same ∙ first.left_same;
  steps_same = next.steps_same ∙ first.steps_same;
  best_same = next.best_same ∙ first.best_same;
  best_stop_same = next.best_stop_same ∙ first.best_stop_same;
  better_length = next.better_length ∙ first.better_length;
  better_stays = λ x marked. next.better_stays x (first.better_stays x marked);
  others_stay = λ x unmarked.
      next.others_stay x unmarked
      ∙ first.others_stay x (not_true (slice_index_or g x false) (λ marked. sym unmarked ∙ next.better_stays x marked));
}

pub fits_ready : (stops : ℕ) (old new : Level) (better better' : List Bool) → ReadyFalls old new better better' → Fits stops old → Fits stops new
fits_ready stops old new better better' f fits = record {
  left = ap vec_len f.left_same ∙ fits.left;
  steps = ap vec_len f.steps_same ∙ fits.steps;
  ready = f.ready_length ∙ fits.ready;
  from = f.from_length ∙ fits.from;
}

pub reached_falls : (below : List Level) (old new : Level) (x r : ℕ) → Falls old new → Reached below old x r → Reached below new x r
reached_falls below old new x r f (Reached.here h) = Reached.here (elim h [ inl ready ↦ inl (omega (arith, f.ready x, ready)) | inr best ↦ inr (omega (arith, f.best, best)) ])
reached_falls below old new x r f (Reached.there l has h) = Reached.there l has h

pub walks_same : (q : Query) (a b : Level) (z x : StopNo) (r : ℕ) → b.left ≡ a.left → WalksBy q a z x r → WalksBy q b z x r
walks_same q a b z x r same w = record {
  seconds = w.seconds;
  transfer = w.transfer;
  left = subst (λ v. slice_index v.items z.0 < 2 ^ 32 - 1) (sym same) w.left;
  by_second = subst (λ v. slice_index v.items z.0 + w.seconds ≤ r) (sym same) w.by_second;
}

-- what making the passenger ready does
pub record IsReadied (old new : Level) (stop : StopNo) (second : ℕ) (from : StopNo) (better better' : List Bool) : Type 0 where
  pub ready : new.ready.items ≡ set old.ready.items stop.0 second
  pub from_is : new.from.items ≡ set old.from.items stop.0 from
  pub marks : better' ≡ set better stop.0 true
  pub ready_length : vec_len new.ready ≡ vec_len old.ready
  pub from_length : vec_len new.from ≡ vec_len old.from
  pub left : new.left ≡ old.left
  pub steps : new.steps ≡ old.steps
  pub best : new.best ≡ old.best
  pub best_stop : new.best_stop ≡ old.best_stop
  pub earlier : second < slice_index old.ready.items stop.0
  pub within : stop.0 < length old.ready.items
  pub from_within : stop.0 < length old.from.items
  pub better_within : stop.0 < length better

module _ (old new : Level) (stop : StopNo) (second : ℕ) (from : StopNo) (better better' : List Bool) (t : IsReadied old new stop second from better better') where
  readied_label : slice_index new.ready.items stop.0 ≡ second
  readied_label = ap (λ (xs : List ℕ). slice_index xs stop.0) t.ready ∙ get_or-set_same old.ready.items stop.0 second 0 t.within

  readied_other : (x : ℕ) → stop.0 ≢ x → slice_index new.ready.items x ≡ slice_index old.ready.items x
  readied_other x other = ap (λ (xs : List ℕ). slice_index xs x) t.ready ∙ get_or-set_other old.ready.items stop.0 x second 0 (λ e. other (sym e))

  pub readied_falls : ReadyFalls old new better better'
  readied_falls = record {
    falls = record {
      left = λ x. omega (arith, ap (λ v. slice_index v.items x) t.left);
      ready = λ x. subst (λ (xs : List ℕ). slice_index xs x ≤ slice_index old.ready.items x) (sym t.ready) (set_low old.ready.items stop.0 second x (omega (arith, t.earlier)));
      best = omega (arith, t.best);
    };
    ready_length = t.ready_length;
    from_length = t.from_length;
    left_same = t.left;
    steps_same = t.steps;
    best_same = t.best;
    best_stop_same = t.best_stop;
    better_length = ap length t.marks ∙ length-set better stop.0 true;
    better_stays = λ x h. subst (λ (xs : List Bool). slice_index_or xs x false ≡ true) (sym t.marks) (set_marks better stop.0 x h);
    others_stay = λ x h. readied_other x (set_unmarked better stop.0 x t.better_within (subst (λ (xs : List Bool). slice_index_or xs x false ≡ false) t.marks h));
  }

  pub readied_known : (below : List Level) → Reached below new stop.0 second
  readied_known below = Reached.here (inl (omega (arith, readied_label)))

  pub readied_sound : (q : Query) (below : List Level) → WalksBy q old from stop second → IsSound q below old → IsSound q below new
  readied_sound q below walks was = record {
    left = λ y step is sure.
        subst (λ v. Arrives q below y (slice_index v.items y.0) step) (sym t.left)
        (was.left y step (ap (λ v. slice_get v.items y.0) (sym t.steps) ∙ is) (subst (λ v. slice_index v.items y.0 < 2 ^ 32 - 1) t.left sure));
    ready = record {
      each = λ x z at sure. elim (cases_eq stop.0 x.0) [
        | inl e ↦
            let same : stop ≡ x = ap (λ (k : ℕ). let v : StopNo = record { 0 = k } in v) e in
            let here : slice_get new.from.items stop.0 ≡ Some from = ap (λ (xs : List StopNo). slice_get xs stop.0) t.from_is ∙ set_get old.from.items stop.0 from t.from_within in
            let from_same : from ≡ z = same_Some from z (sym here ∙ ap (λ k. slice_get new.from.items k) e ∙ at) in
            subst (λ v. WalksBy q new z v (slice_index new.ready.items v.0)) same
            (subst (λ v. WalksBy q new v stop (slice_index new.ready.items stop.0)) from_same
            (subst (λ r. WalksBy q new from stop r) (sym readied_label) (walks_same q old new from stop second t.left walks)))
        | inr other ↦
            let there : slice_get old.from.items x.0 ≡ Some z = sym (set_get_other old.from.items stop.0 x.0 from other) ∙ ap (λ (xs : List StopNo). slice_get xs x.0) (sym t.from_is) ∙ at in
            subst (λ r. WalksBy q new z x r) (sym (readied_other x.0 other))
            (walks_same q old new z x _ t.left (was.ready.each x z there (omega (arith, sure, readied_other x.0 other))))
      ];
    };
    best = λ lt.
        let b = was.best (omega (arith, lt, t.best)) in
        let b' : EndsBy q new old.best_stop old.best = record {
          seconds = b.seconds;
          walk = b.walk;
          left = subst (λ v. slice_index v.items old.best_stop.0 < 2 ^ 32 - 1) (sym t.left) b.left;
          by_second = subst (λ v. slice_index v.items old.best_stop.0 + b.seconds ≤ old.best) (sym t.left) b.by_second;
        } in
        subst (λ z. EndsBy q new z new.best) (sym t.best_stop) (subst (λ a. EndsBy q new old.best_stop a) (sym t.best) b');
  }
