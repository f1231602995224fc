-- From where the rides of a level are boarded.
use Rattle.std.proofs.Common.{◌≡◌, ℕ, ◌+◌, ◌-◌, ◌^◌, ◌<◌, ◌≤◌, List, [], ◌∷◌, length, refl, sym, subst, arith, Option, Some, None}
use Rattle.std.specs.Prelude.{slice_get, slice_index}
use Rattle.move_model.specs.declared.network.StopNo.{StopNo}
use Rattle.move_model.specs.Listed.{HasEntry, HasTransfer}
use Rattle.raptor_rounds.specs.Ways.{Query}
use Rattle.range_lanes.specs.declared.level.Level.{Level}
use Rattle.range_lanes.specs.Levels.{CatchesFrom, StartsFrom, WalksBy, IsReadySound}
use Rattle.range_lanes.specs.State.{BoardsAt}

pub none_before : (below : List Level) → length below ≡ 0 → slice_get below (length below - 1) ≡ None
none_before [] e = refl
none_before (x ∷ below) e = absurd (omega (arith, e))

pub boards_first : (first : List (Option ℕ)) (d x second : ℕ) (o : Option Level) → o ≡ None → BoardsAt first d o x second
    → (m : ℕ) × (slice_get first x ≡ Some (Some m)) × (second ≡ d + m)
boards_first first d x second o e h = subst (λ v. BoardsAt first d v x second) e h

pub boards_after : (first : List (Option ℕ)) (d x second : ℕ) (o : Option Level) (l : Level) → o ≡ Some l → BoardsAt first d o x second
    → second ≡ slice_index l.ready.items x
boards_after first d x second o l e h = subst (λ v. BoardsAt first d v x second) e h

pub starts_first : (q : Query) (below : List Level) (x from : StopNo) (m : ℕ) → length below ≡ 0 → HasEntry q.first x m → StartsFrom q below x (q.depart + m) from
starts_first q below x from m e entry = record {
  each = λ step on from_is stop_is in_time.
      subst (λ o. CatchesFrom q o step on) (sym (none_before below e))
      (m, subst (λ v. HasEntry q.first v m) (sym stop_is) entry, in_time);
}

pub starts_after : (q : Query) (below : List Level) (l : Level) (x z : StopNo) → slice_get below (length below - 1) ≡ Some l → IsReadySound q l
    → slice_get l.from.items x.0 ≡ Some z → slice_index l.ready.items x.0 < 2 ^ 32 - 1 → StartsFrom q below x (slice_index l.ready.items x.0) z
starts_after q below l x z is sound at sure =
    let w : WalksBy q l z x (slice_index l.ready.items x.0) = sound.each x z at sure in
    record {
      each = λ step on from_is stop_is in_time.
          subst (λ o. CatchesFrom q o step on) (sym is) (
            w.seconds,
            subst (λ v. HasTransfer q.list v on.stop w.seconds) (sym from_is) (subst (λ v. HasTransfer q.list z v w.seconds) (sym stop_is) w.transfer),
            subst (λ (v : StopNo). slice_index l.left.items v.0 < 2 ^ 32 - 1) (sym from_is) w.left,
            subst (λ (v : StopNo). slice_index l.left.items v.0 + w.seconds + q.network.buffer ≤ on.dep) (sym from_is) (omega (arith, w.by_second, in_time)),
          );
    }
