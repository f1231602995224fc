-- Before the first second of a place nothing is kept: that is closed, and real.
use Rattle.std.proofs.Common.{◌≡◌, ℕ, ◌+◌, ◌<◌, ◌≤◌, inl, inr, List, length, sym, ap, subst, ◌∙◌, arith, Some}
use Rattle.std.proofs.lemmas.Bool.{cases_lt}
use Rattle.std.proofs.lemmas.List.{length-replicate, get_or-replicate, get_or_past}
use Rattle.std.proofs.lemmas.Option.{slice_get_within}
use Rattle.std.specs.Prelude.{replicate, slice_get, slice_index, slice_index_or}
use Rattle.move_model.specs.declared.network.Network.{Network}
use Rattle.move_model.specs.declared.network.NodeNo.{NodeNo}
use Rattle.move_model.specs.Shortcut.{IsLess}
use Rattle.pareto_laws.proofs.Lexicographic.{IsLess-irreflexive}
use Rattle.route_split.specs.Route.{Route, IsRoute}
use Rattle.stop_rows.specs.Rows.{Rows}
use Rattle.piece_laws.specs.declared.labels.Ready.{Ready}
use Rattle.piece_laws.specs.declared.labels.Second.{Second}
use Rattle.piece_laws.specs.declared.labels.Held.{Held}
use Rattle.piece_laws.specs.Pieces.{held_entries}
use Rattle.piece_laws.specs.Tables.{never}
use Rattle.two_trip_rides.specs.First.{Source, FirstClosed, AreFirstRows}
use Rattle.two_trip_rides.specs.Second.{no_ready, no_held, no_second, ready_at, held_at, second_at, SecondClosed, AreSecondRows}
use Rattle.two_trip_rides.proofs.TimesLemmas.{departs_before}
use Rattle.two_trip_labels.specs.First.{row_at}
use Rattle.two_trip_labels.specs.Second.{held_row}
use Rattle.two_trip_labels.specs.Closed.{Parts, Kept, ArePartsOf, IsClosed}
use Rattle.two_trip_passes.specs.Stops.{AreDue}
use Rattle.two_trip_passes.specs.Step.{source_of, IsReal}
use Rattle.witness_prune.specs.Labels.{Fits, IsNone, IsKept}

none_at : {X : Type 0} (m k : ℕ) (x : X) → slice_index_or (replicate m x) k x ≡ x
none_at m k x = elim (cases_lt k m) [
  | inl l ↦ get_or-replicate m k x x l
  | inr g ↦ get_or_past (replicate m x) k x (omega (arith, length-replicate m x, g))
]

-- past the end a list of seconds has 0
low_at : (m k : ℕ) → slice_index (replicate m never) k ≤ never
low_at m k = elim (cases_lt k m) [
  | inl l ↦ omega (arith, get_or-replicate m k never 0 l)
  | inr g ↦ omega (arith, get_or_past (replicate m never) k 0 (omega (arith, length-replicate m never, g)))
]

module _ (routes : List Route) (rows : Rows) (k : Kept) (none : IsNone routes rows k) where
  pub none_fits : Fits routes rows k
  none_fits = record {
    first_rows = record {
      many = none.first_rows.many;
      each = λ r route is. ap length (none.first_rows.each r route is) ∙ length-replicate (length route.places) never;
    };
    first = ap length none.first ∙ length-replicate (length rows.places) never;
    walked = ap length none.walked ∙ length-replicate (length rows.places) never;
    ready = ap length none.ready ∙ length-replicate (length rows.nodes) no_ready;
    boarded = ap length none.boarded ∙ length-replicate (length rows.places) no_ready;
    held = record {
      many = none.held.many;
      each = λ r route is. ap length (none.held.each r route is) ∙ length-replicate (length route.places) no_held;
    };
    best = ap length none.best ∙ length-replicate (length rows.places) no_second;
  }

  no_walk : (x : ℕ) → slice_index_or k.walked x never ≡ never
  no_walk x = ap (λ (xs : List ℕ). slice_index_or xs x never) none.walked ∙ none_at (length rows.places) x never

  no_label : (p : ℕ) → (ready_at k.ready p).ready ≡ never
  no_label p = ap (λ (l : Ready). l.ready) (ap (λ (ls : List Ready). ready_at ls p) none.ready ∙ none_at (length rows.nodes) p no_ready)

  no_board : (y : ℕ) → (ready_at k.boarded y).ready ≡ never
  no_board y = ap (λ (l : Ready). l.ready) (ap (λ (ls : List Ready). ready_at ls y) none.boarded ∙ none_at (length rows.places) y no_ready)

  no_key : (v : ℕ) → (second_at k.best v).a2 ≡ never
  no_key v = ap (λ (m : Second). m.a2) (ap (λ (ms : List Second). second_at ms v) none.best ∙ none_at (length rows.places) v no_second)

  no_first : (x : ℕ) → slice_index k.first x ≤ never
  no_first x = subst (λ (xs : List ℕ). slice_index xs x ≤ never) (sym none.first) (low_at (length rows.places) x)

  first_in : (x : ℕ) → x < length k.first → slice_index k.first x ≡ never
  first_in x within =
      let l : x < length rows.places = omega (arith, within, none_fits.first) in
      ap (λ (xs : List ℕ). slice_index xs x) none.first ∙ get_or-replicate (length rows.places) x never 0 l

  module _ (stops : ℕ) (r : ℕ) (route : Route) (is : slice_get routes r ≡ Some route) (whole : IsRoute stops route) where
    no_row : (i : ℕ) → i < length route.places → slice_index (row_at k.first_rows r) i ≡ never
    no_row i within = ap (λ (xs : List ℕ). slice_index xs i) (none.first_rows.each r route is) ∙ get_or-replicate (length route.places) i never 0 within

    no_held_at : (i : ℕ) → held_at (held_row k.held r) i ≡ no_held
    no_held_at i = ap (λ (ms : List Held). held_at ms i) (none.held.each r route is) ∙ none_at (length route.places) i no_held

    first_closed : (foot : List ℕ) (z : ℕ) → FirstClosed route foot z (row_at k.first_rows r) k.first
    first_closed foot z = record {
      goes = λ i more. omega (arith, no_row i (omega (arith, more)), no_row (i + 1) (omega (arith, more)));
      leaves = λ i off at may low.
          let within = slice_get_within route.places (i + 1) off at in
          absurd (omega (arith, low, no_row i (omega (arith, within)), whole.few_trips));
    }

    second_closed : (foot : List ℕ) (z : ℕ) (places : List ℕ) (ready : List Ready) (best : List Second) → SecondClosed route foot z places ready (held_row k.held r) best
    second_closed foot z places ready best = record {
      goes = λ i more less.
          IsLess-irreflexive (held_entries no_held)
          (subst (λ (m : Held). IsLess (held_entries no_held) (held_entries m)) (no_held_at (i + 1))
          (subst (λ (m : Held). IsLess (held_entries m) (held_entries (held_at (held_row k.held r) (i + 1)))) (no_held_at i) less));
      leaves = λ i off trip at may is.
          let low = slice_get_within route.trips (held_at (held_row k.held r) i).row trip is in
          absurd (omega (arith, low, ap (λ (m : Held). m.row) (no_held_at i), whole.few_trips));
    }

    first_none : (s : Source) → AreFirstRows s route (row_at k.first_rows r)
    first_none s = record { each = λ i more low. absurd (omega (arith, low, no_row i (omega (arith, more)), whole.few_trips)) }

    second_none : (s : Source) → AreSecondRows s route (held_row k.held r)
    second_none s = record { each = λ i more low. absurd (omega (arith, low, ap (λ (m : Held). m.row) (no_held_at i), whole.few_trips)) }

module _ (n : Network) (q : NodeNo) (z : ℕ) (p : Parts) (rows : Rows) (k : Kept) (parts : ArePartsOf n q p) (none : IsNone p.routes rows k) where
  closed_none : IsClosed n p z 0 0 k
  closed_none = record {
    rows = record { each = λ r route is. first_closed p.routes rows k none (length n.stops) r route is (parts.whole r route is) p.foot z };
    caught = λ r i row route on is at may more within early late. absurd (omega (arith, early));
    first_low = λ x within. omega (arith, no_walk p.routes rows k none x.0, no_first p.routes rows k none x.0);
    walked_low = λ x within early. absurd (omega (arith, early));
    walks = λ x y x_in y_in soon. absurd (omega (arith, soon, no_walk p.routes rows k none x.0));
    own_low = λ y within early. absurd (omega (arith, early));
    place_low = λ y within early. absurd (omega (arith, early));
    ridden = λ r i row route on is at may more within late.
        absurd (omega (arith, late, no_board p.routes rows k none on.stop.0, departs_before (length n.stops) route i row (parts.whole r route is)));
    held_rows = record { each = λ r route is. second_closed p.routes rows k none (length n.stops) r route is (parts.whole r route is) p.foot z p.places k.ready k.best };
  }

  real_none : IsReal n q z p k
  real_none = record {
    sound = record {
      walked = λ x some. absurd (omega (arith, some, no_walk p.routes rows k none x.0));
      ready = λ y within some. absurd (omega (arith, some, no_label p.routes rows k none (slice_index p.places y.0)));
      ready_from = λ y within some. absurd (omega (arith, some, no_label p.routes rows k none (slice_index p.places y.0)));
      boarded = λ y some. absurd (omega (arith, some, no_board p.routes rows k none y.0));
      best = λ v some. absurd (omega (arith, some, no_key p.routes rows k none v.0));
    };
    first = record {
      rows_are = record { each = λ r route is. first_none p.routes rows k none (length n.stops) r route is (parts.whole r route is) (source_of n q z) };
      first_are = record { each = λ x within some. absurd (omega (arith, some, first_in p.routes rows k none x.0 within)) };
    };
    second = record {
      rows_are = record { each = λ r route is. second_none p.routes rows k none (length n.stops) r route is (parts.whole r route is) (source_of n q z) };
      best_are = record { each = λ v within some. absurd (omega (arith, some, no_key p.routes rows k none v.0)) };
    };
  }

  pub kept_none : IsKept n q z p k
  kept_none = record { real = real_none; closed = closed_none }

-- no second is due where none was put down
pub due_none : (routes : List Route) (rows : List (List ℕ)) (m : ℕ) (due : List ℕ) → due ≡ replicate m never → AreDue routes rows due
due_none routes rows m due none = record {
  each = λ x low.
      let within : x < m = omega (arith, low, ap length none, length-replicate m never) in
      inl (ap (λ (xs : List ℕ). slice_index xs x) none ∙ get_or-replicate m x never 0 within);
}
