-- What the passes of a search leave.
use Rattle.std.proofs.Common.{◌≡◌, ℕ, ◌+◌, ◌-◌, ◌<◌, ◌≤◌, ◌⊎◌, inl, inr, List, length, refl, sym, ap, subst, arith}
use Rattle.std.proofs.lemmas.Bool.{cases_lt}
use Rattle.std.proofs.lemmas.List.{get_or_past}
use Rattle.std.specs.Prelude.{slice_index}
use Rattle.move_model.specs.declared.network.Network.{Network}
use Rattle.move_model.specs.declared.network.NodeNo.{NodeNo}
use Rattle.move_model.specs.declared.network.StopNo.{StopNo}
use Rattle.move_model.specs.Network.{IsNetwork}
use Rattle.move_model.specs.Shortcut.{IsLess}
use Rattle.route_split.specs.Route.{Route, departures_of}
use Rattle.stop_rows.specs.Rows.{Rows, entry, place_at}
use Rattle.piece_laws.specs.declared.labels.Ready.{Ready}
use Rattle.piece_laws.specs.declared.labels.Second.{Second}
use Rattle.piece_laws.specs.declared.labels.Held.{Held}
use Rattle.piece_laws.specs.Pieces.{HasFirst, HasReady, held_entries}
use Rattle.piece_laws.proofs.Compose.{ready_first}
use Rattle.piece_laws.proofs.Earlier.{first_earlier, ready_earlier, second_earlier}
use Rattle.two_trip_rides.specs.First.{IsWalked}
use Rattle.two_trip_rides.specs.Second.{no_second, ready_at, held_at, second_at, IsCut, SecondClosed}
use Rattle.two_trip_rides.proofs.TimesLemmas.{stop_within}
use Rattle.two_trip_labels.specs.First.{FirstGoes, FirstSound}
use Rattle.two_trip_labels.specs.Second.{held_row, boarded_with, SecondSound, AllSecondClosed}
use Rattle.two_trip_labels.specs.Walks.{ReadyFall}
use Rattle.two_trip_labels.specs.Closed.{ArePartsOf, Kept, HasPlaceLabel, IsClosed}
use Rattle.two_trip_labels.proofs.Lasting.{sound_earlier}
use Rattle.two_trip_labels.proofs.LabelLemmas.{label_real}
use Rattle.two_trip_passes.specs.Stops.{IsStopBoarded}
use Rattle.two_trip_passes.specs.Walks.{WalkGoes, IsWalkOf, last_walked}
use Rattle.two_trip_passes.specs.Rides.{IsStopRidden, RideGoes, IsBoardedLow, AreReal}
use Rattle.two_trip_passes.specs.Step.{parts_of, source_of, AreRowsOf, with_walks, with_rides, IsReal}

-- what is closed stays so where labels fall
second_closed : (routes : List Route) (foot : List ℕ) (z : ℕ) (places : List ℕ) (ready ready' : List Ready) (held : List (List Held)) (best : List Second) → ReadyFall ready ready'
    → AllSecondClosed routes foot z places ready held best → AllSecondClosed routes foot z places ready' held best
second_closed routes foot z places ready ready' held best falls c = record { each = λ r route is. one route (held_row held r) (c.each r route is) }
  where
    cut : (x : StopNo) (a : ℕ) → IsCut foot z places ready x a → IsCut foot z places ready' x a
    cut x a (inl w) = inl w
    cut x a (inr l) =
        let p : ℕ = slice_index places x.0 in
        inr (omega (arith, l, ready_first (ready_at ready' p) (ready_at ready p) (falls.each p)))

    one : (route : Route) (row : List Held) → SecondClosed route foot z places ready row best → SecondClosed route foot z places ready' row best
    one route row h = record {
      goes = h.goes;
      leaves = λ k off trip at may is. elim (h.leaves k off trip at may is) [ inl w ↦ inl (cut off.stop _ w) | inr l ↦ inr l ];
    }

module _ (n : Network) (q : NodeNo) (z : ℕ) (routes : List Route) (foot foot_row : List ℕ) (rows : Rows) where
  pub closed_again : (g h : ℕ) (k : Kept) (first_rows : List (List ℕ)) (first walked : List ℕ) (ready boarded : List Ready) (held : List (List Held)) (best : List Second)
      → ArePartsOf n q (parts_of routes foot foot_row rows) → AreRowsOf n rows → length first ≡ length n.stops
      → FirstGoes routes foot z k.first_rows first_rows k.first first
      → ((x : ℕ) → x < length n.stops → z + slice_index foot x < g → IsStopBoarded routes (z + slice_index foot x + n.buffer) first_rows x)
      → WalkGoes rows foot_row z first k.walked walked k.ready ready → ((x : ℕ) → x < length first → last_walked walked x ≤ slice_index first x)
      → RideGoes routes foot z rows.places n.buffer first ready k.boarded boarded k.held held k.best best
      → ((y : StopNo) → y.0 < length n.stops → IsBoardedLow rows.places first ready (ready_at boarded y.0) y)
      → IsClosed n (parts_of routes foot foot_row rows) z 0 0 k
      → IsClosed n (parts_of routes foot foot_row rows) z g h (with_rides (with_walks k first_rows first walked ready) boarded held best)
  closed_again g h k first_rows first walked ready boarded held best parts are many firsts caught walks low rides boarded_low c = record {
    rows = firsts.closed c.rows;
    caught = λ r i row route on is at may more within early late.
        (caught on.stop.0 (stop_within (length n.stops) route i on (parts.whole r route is) at) early).each r i row route on is at refl may more within late;
    first_low = λ x within. elim (walks.each x.0) [
      | inl same ↦ omega (arith, same, c.first_low x within, firsts.first_falls.each x.0)
      | inr new ↦ omega (arith, new.1)
    ];
    walked_low = λ x within early. low x.0 (omega (arith, within, many));
    walks = λ x y x_in y_in. walks.walks x (place_at rows y) (are.within y y_in) (c.walks x y x_in y_in);
    own_low = λ y within early. (boarded_low y within).own_low;
    place_low = λ y within early. (boarded_low y within).place_low;
    ridden = λ r i row route on is at may more within late. (rides.ridden on.stop (was on.stop)).each r i row route on is at refl may more within late;
    held_rows = rides.goes.closed (second_closed routes foot z rows.places k.ready ready k.held k.best walks.ready_falls c.held_rows);
  }
    where
      was : (y : StopNo) → IsStopRidden routes foot z n.buffer (ready_at k.boarded y.0) k.held y
      was y = record {
        each = λ r i row route on is at here may more within.
            subst (λ (s : StopNo). (ready_at k.boarded s.0).ready + n.buffer ≤ slice_index (departures_of route i) row → IsWalked foot z s (ready_at k.boarded s.0).ready
            ⊎ ¬ (IsLess (held_entries (boarded_with row on (ready_at k.boarded s.0))) (held_entries (held_at (held_row k.held r) i)))) here
            (c.ridden r i row route on is at may more within);
      }

  pub walked_real : (k : Kept) (first_rows : List (List ℕ)) (first walked : List ℕ) (ready : List Ready)
      → ArePartsOf n q (parts_of routes foot foot_row rows) → length first ≡ length n.stops
      → FirstGoes routes foot z k.first_rows first_rows k.first first → FirstSound (source_of n q z) routes first_rows first
      → WalkGoes rows foot_row z first k.walked walked k.ready ready
      → IsReal n q z (parts_of routes foot foot_row rows) k → IsReal n q z (parts_of routes foot foot_row rows) (with_walks k first_rows first walked ready)
  walked_real k first_rows first walked ready parts many firsts firsts_real walks real = record {
    sound = record {
      walked = λ x some. elim (walks.each x.0) [
        | inl same ↦ subst (λ (a : ℕ). HasFirst n q z x a) (sym same) (real.sound.walked x (omega (arith, same, some)))
        | inr new ↦ subst (λ (a : ℕ). HasFirst n q z x a) (sym new.1) (firsts_real.first_are.each x new.0 (omega (arith, new.1, some)))
      ];
      ready = λ y within some. elim (walks.changed (place_at rows y)) [
        | inl same ↦ subst (λ (l : Ready). HasPlaceLabel n q z y l) (sym same) (real.sound.ready y within (omega (arith, some, ap (λ (l : Ready). l.ready) same)))
        | inr w ↦ walk_label y within (ready_at ready (place_at rows y)) w
      ];
      ready_from = λ y within some. elim (walks.changed (place_at rows y)) [
        | inl same ↦ subst (λ (l : Ready). slice_index first (l.c - 1) ≤ l.a1) (sym same) (still (ready_at k.ready (place_at rows y)) (real.sound.ready_from y within (omega (arith, some, ap (λ (l : Ready). l.ready) same))))
        | inr w ↦ from_walk (ready_at ready (place_at rows y)) w
      ];
      boarded = real.sound.boarded;
      best = real.sound.best;
    };
    first = firsts_real;
    second = real.second;
  }
    where
      still : (l : Ready) → slice_index k.first (l.c - 1) ≤ l.a1 → slice_index first (l.c - 1) ≤ l.a1
      still l le = omega (arith, le, firsts.first_falls.each (l.c - 1))

      from_walk : {at : ℕ} (l : Ready) → IsWalkOf rows first at l → slice_index first (l.c - 1) ≤ l.a1
      from_walk l w =
          let e : w.stop.0 ≡ l.c - 1 = omega (arith, w.c_is) in
          subst (λ (i : ℕ). slice_index first i ≤ l.a1) e (omega (arith, w.a1_is))

      walk_label : (y : StopNo) → y.0 < length n.stops → (l : Ready) → IsWalkOf rows first (place_at rows y) l → HasPlaceLabel n q z y l
      walk_label y within l w = record {
        from = w.stop;
        first = subst (λ (a : ℕ). HasFirst n q z w.stop a) (sym w.a1_is) (firsts_real.first_are.each w.stop w.exists (omega (arith, w.a1_is, w.ready_is, w.in_time)));
        walk = entry rows (place_at rows w.stop) (place_at rows y);
        between = (parts.between w.stop y (omega (arith, w.exists, many)) within).real (omega (arith, w.ready_is, w.in_time));
        ready_is = w.ready_is;
        c_is = w.c_is;
      }

  pub labels_real : (k : Kept) → IsNetwork n → length k.first ≡ length n.stops → IsReal n q z (parts_of routes foot foot_row rows) k
      → AreReal (source_of n q z) rows.places k.first k.ready
  labels_real k ok many real = record {
    each = λ y l within is some. label_real n q z (parts_of routes foot foot_row rows) k y l ok real.sound (omega (arith, within, many)) (real.first.first_are.each y within) is some;
  }

  pub ridden_real : (k : Kept) (boarded : List Ready) (held : List (List Held)) (best : List Second) → AreReal (source_of n q z) rows.places k.first k.ready
      → RideGoes routes foot z rows.places n.buffer k.first k.ready k.boarded boarded k.held held k.best best → SecondSound (source_of n q z) routes held best
      → IsReal n q z (parts_of routes foot foot_row rows) k → IsReal n q z (parts_of routes foot foot_row rows) (with_rides k boarded held best)
  ridden_real k boarded held best labels rides seconds real = record {
    sound = record {
      walked = real.sound.walked;
      ready = real.sound.ready;
      ready_from = real.sound.ready_from;
      boarded = λ y some. elim (rides.each y) [
        | inl same ↦ subst (λ (l : Ready). HasReady n q z y l) (sym same) (real.sound.boarded y (omega (arith, some, ap (λ (l : Ready). l.ready) same)))
        | inr new ↦ labels.each y (ready_at boarded y.0) new.0 new.1 some
      ];
      best = λ v some. elim (cases_lt v.0 (length best)) [
        | inl l ↦ seconds.best_are.each v l some
        | inr g ↦ let e = ap (λ (m : Second). m.a2) (get_or_past best v.0 no_second g) in absurd (omega (arith, some, e))
      ];
    };
    first = real.first;
    second = seconds;
  }

pub real_earlier : (n : Network) (q : NodeNo) (z z' : ℕ) (routes : List Route) (foot foot_row : List ℕ) (rows : Rows) (k : Kept)
    → z' ≤ z → IsReal n q z (parts_of routes foot foot_row rows) k → IsReal n q z' (parts_of routes foot foot_row rows) k
real_earlier n q z z' routes foot foot_row rows k le real = record {
  sound = sound_earlier n q z z' (parts_of routes foot foot_row rows) k le real.sound;
  first = record {
    rows_are = record {
      each = λ r route is. record {
        each = λ i more within.
            let f = (real.first.rows_are.each r route is).each i more within in
            record { at = f.at; by = f.by; on = f.on; is_place = f.is_place; may_board = f.may_board; walk = f.walk; to_it = f.to_it; in_time = omega (arith, f.in_time) };
      };
    };
    first_are = record { each = λ x within some. first_earlier n q z z' le x (slice_index k.first x.0) (real.first.first_are.each x within some) };
  };
  second = record {
    rows_are = record {
      each = λ r route is. record {
        each = λ i more within.
            let f = (real.second.rows_are.each r route is).each i more within in
            record {
              at = f.at;
              by = f.by;
              on = f.on;
              is_place = f.is_place;
              may_board = f.may_board;
              boards = ready_earlier n q z z' le f.on.stop (held_at (held_row k.held r) i).label f.boards;
              in_time = f.in_time;
              y_is = f.y_is;
            };
      };
    };
    best_are = record { each = λ v within some. second_earlier n q z z' le v (second_at k.best v.0) (real.second.best_are.each v within some) };
  };
}
