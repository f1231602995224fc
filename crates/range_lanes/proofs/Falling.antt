-- What is served stays served while labels fall.
use Rattle.std.proofs.Common.{◌≡◌, ℕ, ◌≤◌, Bool, true, false, List, refl, sym, ◌∙◌, inl, inr, arith}
use Rattle.std.specs.Prelude.{slice_index_or}
use Rattle.route_split.specs.Route.{Route}
use Rattle.range_lanes.specs.declared.level.Level.{Level}
use Rattle.range_lanes.specs.Levels.{Served, Ridden, Boarded, Falls, LeftFalls}
use Rattle.range_lanes.specs.Levels.Served.{here, there}

pub falls_on : (a b c : Level) → Falls a b → Falls b c → Falls a c
falls_on a b c f g = record {
  left = λ x. omega (arith, f.left x, g.left x);
  ready = λ x. omega (arith, f.ready x, g.ready x);
  best = omega (arith, f.best, g.best);
}

pub falls_same : (a : Level) → Falls a a
falls_same a = record { left = λ x. omega arith; ready = λ x. omega arith; best = omega arith }

pub left_falls_same : (a : Level) (fresh : List Bool) → LeftFalls a a fresh fresh
left_falls_same a fresh = record {
  falls = falls_same a;
  left_length = refl;
  steps_length = refl;
  ready_same = refl;
  from_same = refl;
  fresh_length = refl;
  fresh_stays = λ x h. h;
  others_stay = λ x h. refl;
  sure = λ x h. inl h;
}

pub not_true : (b : Bool) → (b ≡ true → false ≡ true) → b ≡ false
not_true true f = sym (f refl)
not_true false f = refl

pub left_falls_on : (a b c : Level) (f g h : List Bool) → LeftFalls a b f g → LeftFalls b c g h → LeftFalls a c f h
left_falls_on a b c f g h first next = record {
  falls = falls_on a b c first.falls next.falls;
  left_length = next.left_length ∙ first.left_length;
  steps_length = next.steps_length ∙ first.steps_length;
  ready_same = next.ready_same ∙ first.ready_same;
  from_same = next.from_same ∙ first.from_same;
  fresh_length = next.fresh_length ∙ first.fresh_length;
  fresh_stays = λ x marked. next.fresh_stays x (first.fresh_stays x marked);
  others_stay = λ x unmarked.
      next.others_stay x unmarked
      ∙ first.others_stay x (not_true (slice_index_or g x false) (λ marked. sym unmarked ∙ next.fresh_stays x marked));
  sure = λ x marked. elim (next.sure x marked) [
    | inl before ↦ elim (first.sure x before) [ inl was ↦ inl was | inr low ↦ inr (omega (arith, low, next.falls.left x)) ]
    | inr low ↦ inr low
  ];
}

pub served_falls : (below : List Level) (old new : Level) (y a : ℕ) → Falls old new → Served below old y a → Served below new y a
served_falls below old new y a f (here h) = here (elim h [ inl left ↦ inl (omega (arith, f.left y, left)) | inr best ↦ inr (omega (arith, f.best, best)) ])
served_falls below old new y a f (there l has h) = there l has h

pub served_later : (below : List Level) (level : Level) (y a b : ℕ) → a ≤ b → Served below level y a → Served below level y b
served_later below level y a b le (here h) = here (elim h [ inl left ↦ inl (omega (arith, le, left)) | inr best ↦ inr (omega (arith, le, best)) ])
served_later below level y a b le (there l has h) =
    there l has (elim h [ inl left ↦ inl (omega (arith, le, left)) | inr best ↦ inr (omega (arith, le, best)) ])

pub ridden_falls : (below : List Level) (old new : Level) (route : Route) (i p : ℕ) → Falls old new → Ridden below old route i p → Ridden below new route i p
ridden_falls below old new route i p f was =
    record { each = λ j off lt at may. served_falls below old new off.stop.0 _ f (was.each j off lt at may) }

pub boarded_falls : (below : List Level) (old new : Level) (route : Route) (buffer i second : ℕ) → Falls old new
    → Boarded below old route buffer i second → Boarded below new route buffer i second
boarded_falls below old new route buffer i second f was =
    record { each = λ on p at may row in_time. ridden_falls below old new route i p f (was.each on p at may row in_time) }
