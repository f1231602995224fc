-- What a round does to one level, and so to all.
use Rattle.std.proofs.Common.{◌≡◌, ℕ, zero, suc, ◌+◌, ◌-◌, ◌^◌, ◌<◌, ◌≤◌, inl, inr, Bool, true, false, List, [], ◌∷◌, ◌++◌, length, set, replicate, refl, sym, ap, ◌∙◌, subst, arith, Option, Some, None}
use Rattle.std.specs.Prelude.{slice_get, slice_index, slice_index_or, vec_len}
use Rattle.std.proofs.lemmas.Option.{slice_get_within, same_Some}
use Rattle.move_model.specs.declared.network.StopNo.{StopNo}
use Rattle.move_model.specs.declared.journey.Shortcut.{Shortcut}
use Rattle.move_model.specs.Listed.{HasTransfer}
use Rattle.route_split.specs.declared.place.Place.{Place}
use Rattle.route_split.specs.Route.{Route}
use Rattle.route_split.specs.Table.{Table}
use Rattle.raptor_rounds.specs.Ways.{Query}
use Rattle.range_lanes.specs.declared.level.Level.{Level}
use Rattle.range_lanes.specs.Levels.{Reached, Exploited, Falls, LeftFalls, ReadyFalls, Covers, Fits, IsSound, IsReadySound}
use Rattle.range_lanes.specs.State.{BoardsAt, IsWalked, IsClosed, IsBetween, AreSound}
use Rattle.range_lanes.proofs.Falling.{falls_on}
use Rattle.range_lanes.proofs.Walking.{reached_falls}
use Rattle.range_lanes.proofs.RoundLaw.{bool_cases, split_here, split_take, round_law}
use Rattle.range_lanes.proofs.SoundLaw.{sound_law}

pub blank_mark : (n x : ℕ) → slice_index_or (replicate n false) x false ≡ false
blank_mark zero x = refl
blank_mark (suc n) zero = refl
blank_mark (suc n) (suc x) = blank_mark n x

pub blank_true : (fresh : List Bool) (n x : ℕ) → fresh ≡ replicate n false → slice_index_or fresh x false ≡ true → ⊥
blank_true fresh n x is marked =
    let unmarked : slice_index_or fresh x false ≡ false = ap (λ (v : List Bool). slice_index_or v x false) is ∙ blank_mark n x in
    cc

module _ (old mid new : Level) (fresh fresh' better better' : List Bool) (rides : LeftFalls old mid fresh fresh') (walks : ReadyFalls mid new better better') where
  pub round_falls : Falls old new
  round_falls = falls_on old mid new rides.falls walks.falls

  pub round_ready : (x : ℕ) → slice_index_or better' x false ≡ false → slice_index new.ready.items x ≡ slice_index old.ready.items x
  round_ready x unmarked = walks.others_stay x unmarked ∙ ap (λ v. slice_index v.items x) rides.ready_same

  pub round_fits : (stops : ℕ) → Fits stops old → Fits stops new
  round_fits stops fits = record {
    left = ap vec_len walks.left_same ∙ rides.left_length ∙ fits.left;
    steps = ap vec_len walks.steps_same ∙ rides.steps_length ∙ fits.steps;
    ready = walks.ready_length ∙ ap vec_len rides.ready_same ∙ fits.ready;
    from = walks.from_length ∙ ap vec_len rides.from_same ∙ fits.from;
  }

  pub round_covers : (last : List (Option ℕ)) → Covers last mid → Covers last new
  round_covers last was = record {
    each = λ y m sure entry.
        let is : slice_index new.left.items y.0 ≡ slice_index mid.left.items y.0 = ap (λ v. slice_index v.items y.0) walks.left_same in
        omega (arith, is, walks.best_same, was.each y m (omega (arith, is, sure)) entry);
  }

  -- who leaves a ride where nothing changed has walked on before
  pub round_walked : (list : List Shortcut) (below : List Level)
      → ((y x : StopNo) (m : ℕ) → slice_index_or fresh' y.0 false ≡ true → HasTransfer list y x m → Reached below new x.0 (slice_index new.left.items y.0 + m))
      → IsWalked list below old → IsWalked list below new
  round_walked list below known was = record {
    each = λ y x m transfer sure. elim (bool_cases (slice_index_or fresh' y.0 false)) [
      | inl marked ↦ known y x m marked transfer
      | inr unmarked ↦
          let is : slice_index new.left.items y.0 ≡ slice_index old.left.items y.0 =
          ap (λ v. slice_index v.items y.0) walks.left_same ∙ rides.others_stay y.0 unmarked in
          subst (λ s. Reached below new x.0 (s + m)) (sym is)
          (reached_falls below old new x.0 _ round_falls (was.each y x m transfer (omega (arith, is, sure))))
    ];
  }

-- what is known of a level at its place
module _ (table : Table) (first last : List (Option ℕ)) (list : List Shortcut) (d k : ℕ) (better : List Bool) (below : List Level) (a : Level) (above : List Level)
    (was : IsBetween table first last list d k better (below ++ a ∷ above)) where
  pub walked_at : IsWalked list below a
  walked_at = subst (λ ls. IsWalked list ls a) (split_take below a above) (was.walked (length below) a (split_here below a above))

  pub covers_at : Covers last a
  covers_at = was.covers (length below) a (split_here below a above)

-- what a round did to the level at its place is done to all levels
pub round_slice : (table : Table) (first last : List (Option ℕ)) (list : List Shortcut) (d : ℕ) (below rest : List Level) (a b : Level) (better better' : List Bool)
    → slice_get rest 0 ≡ Some a → Falls a b
    → ((r i second : ℕ) (route : Route) (place : Place) → slice_get table.routes r ≡ Some route → slice_get route.places i ≡ Some place
    → BoardsAt first d (slice_get below (length below - 1)) place.stop.0 second → slice_index_or better place.stop.0 false ≡ true
    → Exploited below b route table.buffer i second)
    → ((x : ℕ) → slice_index_or better' x false ≡ false → slice_index b.ready.items x ≡ slice_index a.ready.items x)
    → (IsWalked list below a → IsWalked list below b) → (Covers last a → Covers last b)
    → IsBetween table first last list d (length below) better (below ++ rest)
    → IsBetween table first last list d (length below + 1) better' (below ++ set rest 0 b)
round_slice table first last list d below [] a b better better' is falls followed ready walked covers was = absurd (no is)
  where
    no : None ≡ Some a → ⊥
    no e = cc
round_slice table first last list d below (x ∷ above) a b better better' is falls followed ready walked covers was =
    let was' : IsBetween table first last list d (length below) better (below ++ a ∷ above) =
    subst (λ v. IsBetween table first last list d (length below) better (below ++ v ∷ above)) (same_Some x a is) was in
    round_law table first last list d below a b above better better' falls followed ready
    (walked (walked_at table first last list d (length below) better below a above was')) (covers (covers_at table first last list d (length below) better below a above was')) was'

get_before : (below rest : List Level) (i : ℕ) (l : Level) → slice_get below i ≡ Some l → slice_get (below ++ rest) i ≡ Some l
get_before [] rest i l e = absurd (no e)
  where
    no : None ≡ Some l → ⊥
    no e = cc
get_before (x ∷ below) rest zero l e = e
get_before (x ∷ below) rest (suc i) l e = get_before below rest i l e

pub sound_slice : (q : Query) (below rest : List Level) (a b : Level) → slice_get rest 0 ≡ Some a → Falls a b
    → (((l : Level) → slice_get below (length below - 1) ≡ Some l → IsReadySound q l) → IsSound q below a → IsSound q below b)
    → AreSound q (below ++ rest) → AreSound q (below ++ set rest 0 b)
sound_slice q below [] a b is falls sound was = absurd (no is)
  where
    no : None ≡ Some a → ⊥
    no e = cc
sound_slice q below (x ∷ above) a b is falls sound was =
    let was' : AreSound q (below ++ a ∷ above) = subst (λ v. AreSound q (below ++ v ∷ above)) (same_Some x a is) was in
    sound_law q below a b above falls was'
    (sound (λ l at. (was'.each (length below - 1) l (get_before below (a ∷ above) (length below - 1) l at)).ready)
    (subst (λ ls. IsSound q ls a) (split_take below a above) (was'.each (length below) a (split_here below a above))))

-- after the last round nothing is left to follow
pub between_closed : (table : Table) (first last : List (Option ℕ)) (list : List Shortcut) (d k : ℕ) (better : List Bool) (levels : List Level) → length levels ≤ k
    → IsBetween table first last list d k better levels → IsClosed table first last list d levels
between_closed table first last list d k better levels past was = record {
  each = λ j level is. record {
    followed = record {
      each = λ r i second route place at_route at_place boards.
          was.followed j r i second level route place is at_route at_place boards (λ e. absurd (omega (arith, e, past, slice_get_within levels j level is)));
    };
    walked = was.walked j level is;
    covers = was.covers j level is;
  };
}
