-- Levels stay sound while labels of one of them fall to sound labels.
use Rattle.std.proofs.Common.{◌≡◌, ℕ, zero, suc, ◌<◌, inl, inr, List, ◌∷◌, ◌++◌, length, take, sym, ap, ◌∙◌, subst, arith, Some}
use Rattle.std.specs.Prelude.{slice_get}
use Rattle.std.proofs.lemmas.Bool.{cases_lt}
use Rattle.std.proofs.lemmas.Option.{slice_get_within, same_Some}
use Rattle.move_model.specs.declared.network.Call.{Call}
use Rattle.raptor_rounds.specs.Ways.{Query}
use Rattle.range_lanes.specs.declared.level.Step.{Step}
use Rattle.range_lanes.specs.declared.level.Level.{Level}
use Rattle.range_lanes.specs.Levels.{CatchesFrom, Falls, IsSound}
use Rattle.range_lanes.specs.State.{AreSound}
use Rattle.range_lanes.proofs.Complete.{level_before}
use Rattle.range_lanes.proofs.RoundLaw.{split_get, split_here, split_take, split_low, item_at, before_of}

module _ (q : Query) (below : List Level) (a b : Level) (above : List Level) (falls : Falls a b) where
  abbrev old : List Level
  old = below ++ a ∷ above

  abbrev new : List Level
  new = below ++ b ∷ above

  catches_after : (step : Step) (on : Call) → CatchesFrom q (Some a) step on → CatchesFrom q (Some b) step on
  catches_after step on c = (c.0, c.1, omega (arith, c.2, falls.left step.from.0), omega (arith, c.3, falls.left step.from.0))

  catches_new : (j : ℕ) (level : Level) → length below < j → slice_get new j ≡ Some level → (step : Step) (on : Call)
      → CatchesFrom q (before_of old j) step on → CatchesFrom q (before_of new j) step on
  catches_new zero level after is step on c = absurd (omega (arith, after))
  catches_new (suc i) level after is step on c = elim (cases_lt (length below) i) [
    | inl later ↦
        let has : (l : Level) × (slice_get new i ≡ Some l) = item_at new i (omega (arith, slice_get_within new (suc i) level is)) in
        let was_has : slice_get old i ≡ Some has.0 = split_get below a b above i (λ e. omega (arith, later, e)) ∙ has.1 in
        subst (λ o. CatchesFrom q o step on) (level_before old i has.0 was_has ∙ sym (level_before new i has.0 has.1)) c
    | inr le ↦
        let e : length below ≡ i = omega (arith, le, after) in
        let new_at : slice_get new i ≡ Some b = ap (λ k. slice_get new k) (sym e) ∙ split_here below b above in
        let old_at : slice_get old i ≡ Some a = ap (λ k. slice_get old k) (sym e) ∙ split_here below a above in
        subst (λ o. CatchesFrom q o step on) (sym (level_before new i b new_at))
        (catches_after step on (subst (λ o. CatchesFrom q o step on) (level_before old i a old_at) c))
  ]

  pub sound_law : AreSound q old → IsSound q below b → AreSound q new
  sound_law was here = record { each = each }
    where
      each : (j : ℕ) (level : Level) → slice_get new j ≡ Some level → IsSound q (take j new) level
      each j level is = elim (cases_lt j (length below)) [
        | inl before ↦ subst (λ ls. IsSound q ls level) (split_low below a b above j (omega (arith, before)))
            (was.each j level (split_get below a b above j (λ e. omega (arith, before, e)) ∙ is))
        | inr from ↦ elim (cases_lt (length below) j) [
          | inl after ↦
              let s = was.each j level (split_get below a b above j (λ e. omega (arith, after, e)) ∙ is) in
              record {
                left = λ y step is_step sure.
                    let arrives = s.left y step is_step sure in
                    record {
                      on = arrives.on;
                      off = arrives.off;
                      is_ride = arrives.is_ride;
                      stop_is = arrives.stop_is;
                      by_second = arrives.by_second;
                      catches = catches_new j level after is step arrives.on arrives.catches;
                    };
                ready = s.ready;
                best = s.best;
              }
          | inr upto ↦
              let e : length below ≡ j = omega (arith, from, upto) in
              subst (λ k. IsSound q (take k new) level) e
              (subst (λ ls. IsSound q ls level) (sym (split_take below b above))
              (subst (λ l. IsSound q below l) (same_Some b level (sym (split_here below b above) ∙ ap (λ k. slice_get new k) e ∙ is)) here))
        ]
      ]
