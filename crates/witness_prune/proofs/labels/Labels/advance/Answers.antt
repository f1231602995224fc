use Rattle.std.proofs.Common.{◌≡◌, ◌<◌, ◌≤◌, ◌∙◌, ℕ, List, length, sym, ap, subst}
use Rattle.std.specs.Prelude.{All, slice_index}
use Rattle.move_model.specs.declared.network.StopNo.{StopNo}
use Rattle.route_split.specs.Route.{IsRoute}
use Rattle.piece_laws.specs.declared.labels.Ready.{Ready}
use Rattle.two_trip_rides.specs.First.{Source}
use Rattle.two_trip_rides.specs.Second.{ready_at}
use Rattle.two_trip_labels.specs.First.{AreRoutesOf}
use Rattle.two_trip_labels.specs.Second.{SecondSound}
use Rattle.two_trip_passes.specs.Walks.{WalkGoes, last_walked}
use Rattle.two_trip_passes.specs.Rides.{RideGoes, IsBoardedLow, AreReal}
use Rattle.witness_prune.specs.Labels.{kept_of}
use Rattle.witness_prune.proofs.AdvanceLemmas.{Passes, advance_closed, advance_real}
use Rattle.witness_prune.proofs.labels.Labels.advance.Goals as goal

pub board-requires-clause-whole : goal.board-requires-clause-whole
board-requires-clause-whole c = subst (λ (m : ℕ). All (IsRoute m) c.args.routes.now) (sym c.requires.fits.first) c.requires.whole

pub board-requires-clause-stops : goal.board-requires-clause-stops
board-requires-clause-stops c = c.requires.stops ∙ sym c.requires.fits.first

pub board-requires-clause-foot : goal.board-requires-clause-foot
board-requires-clause-foot c = c.requires.foot ∙ sym c.requires.fits.first

pub board-requires-clause-fit : goal.board-requires-clause-fit
board-requires-clause-fit c = c.requires.fits.first_rows

pub walk-requires-clause-places : goal.walk-requires-clause-places
walk-requires-clause-places c = sym (ap length c.as_slice-first.ensures.value ∙ c.board.ensures.goes.first_falls.as_many ∙ c.requires.fits.first)

pub walk-requires-clause-walked : goal.walk-requires-clause-walked
walk-requires-clause-walked c = c.requires.fits.walked ∙ sym (ap length c.as_slice-first.ensures.value ∙ c.board.ensures.goes.first_falls.as_many ∙ c.requires.fits.first)

pub ride-requires-clause-whole : goal.ride-requires-clause-whole
ride-requires-clause-whole c = subst (λ (m : ℕ). All (IsRoute m) c.args.routes.now) (sym c.requires.fits.best) c.requires.whole

pub ride-requires-clause-stops : goal.ride-requires-clause-stops
ride-requires-clause-stops c = c.requires.stops ∙ sym c.requires.fits.best

pub ride-requires-clause-foot : goal.ride-requires-clause-foot
ride-requires-clause-foot c = c.requires.foot ∙ sym c.requires.fits.best

pub ride-requires-clause-places : goal.ride-requires-clause-places
ride-requires-clause-places c = ap length c.requires.places ∙ sym c.requires.fits.best

pub ride-requires-clause-within : goal.ride-requires-clause-within
ride-requires-clause-within c =
    subst (λ (m : ℕ). All (λ p. p < m) c.args.places.now) (sym (ap length c.as_slice-ready.ensures.value ∙ c.walk.ensures.goes.ready_falls.as_many ∙ c.requires.fits.ready)) c.requires.within

pub ride-requires-clause-first : goal.ride-requires-clause-first
ride-requires-clause-first c = ap length c.as_slice-first.ensures.value ∙ c.board.ensures.goes.first_falls.as_many ∙ c.requires.fits.first ∙ sym c.requires.fits.best

pub ride-requires-clause-boarded : goal.ride-requires-clause-boarded
ride-requires-clause-boarded c = c.requires.fits.boarded ∙ sym c.requires.fits.best

pub returns-clause-fits : goal.returns-clause-fits
returns-clause-fits c = record {
  first_rows = c.board.ensures.goes.fit c.requires.fits.first_rows;
  first = c.board.ensures.goes.first_falls.as_many ∙ c.requires.fits.first;
  walked = c.walk.ensures.goes.as_many ∙ c.requires.fits.walked;
  ready = c.walk.ensures.goes.ready_falls.as_many ∙ c.requires.fits.ready;
  boarded = c.ride.ensures.goes.as_many ∙ c.requires.fits.boarded;
  held = c.ride.ensures.goes.goes.fit c.requires.fits.held;
  best = c.ride.ensures.goes.goes.best_fall.as_many ∙ c.requires.fits.best;
}

pub returns-clause-done : goal.returns-clause-done
returns-clause-done c n q z ok same are parts le kept =
    let k = kept_of c.args.self.now in
    let routes = c.args.routes.now in
    let rows = c.args.rows.now in
    let foot = c.args.foot.now in
    let foot_row = c.args.foot_row.now in
    let buffer = c.args.table.now.buffer in
    let second = c.args.second in
    let before = c.args.before in
    let first_rows = c.board.new.rows in
    let first = c.board.new.first.items in
    let walked = c.walk.new.walked.items in
    let ready = c.walk.new.ready.items in
    let boarded = c.ride.new.boarded.items in
    let held = c.ride.new.rows in
    let best = c.ride.new.best.items in
    let e : c.as_slice-first.result.now ≡ first = c.as_slice-first.ensures.value in
    let f : c.as_slice-ready.result.now ≡ ready = c.as_slice-ready.ensures.value in
    let g : c.args.places.now ≡ rows.places = c.requires.places in
    let passes : Passes routes foot foot_row rows buffer second before k first_rows first walked ready boarded held best = record {
      boards = c.board.ensures.goes;
      caught = c.board.ensures.caught;
      boards_sound = c.board.ensures.sound;
      walks = subst (λ (xs : List ℕ). WalkGoes rows foot_row second xs k.walked walked k.ready ready) e c.walk.ensures.goes;
      walked_low = subst (λ (xs : List ℕ). (x : ℕ) → x < length xs → last_walked walked x ≤ slice_index xs x) e c.walk.ensures.low;
      rides =
          subst (λ (xs : List ℕ). RideGoes routes foot second xs buffer first ready k.boarded boarded k.held held k.best best) g
          (subst (λ (xs : List ℕ). RideGoes routes foot second c.args.places.now buffer xs ready k.boarded boarded k.held held k.best best) e
          (subst (λ (xs : List Ready). RideGoes routes foot second c.args.places.now buffer c.as_slice-first.result.now xs k.boarded boarded k.held held k.best best) f c.ride.ensures.goes));
      rides_low =
          subst (λ (xs : List ℕ). (y : StopNo) → y.0 < length k.best → IsBoardedLow xs first ready (ready_at boarded y.0) y) g
          (subst (λ (xs : List ℕ). (y : StopNo) → y.0 < length k.best → IsBoardedLow c.args.places.now xs ready (ready_at boarded y.0) y) e
          (subst (λ (xs : List Ready). (y : StopNo) → y.0 < length k.best → IsBoardedLow c.args.places.now c.as_slice-first.result.now xs (ready_at boarded y.0) y) f c.ride.ensures.low));
      rides_sound =
          subst (λ (xs : List ℕ). (s : Source) → s.network.buffer ≡ buffer → AreRoutesOf s.network.trips routes → AreReal s xs first ready → SecondSound s routes k.held k.best → SecondSound s routes held best) g
          (subst (λ (xs : List ℕ). (s : Source) → s.network.buffer ≡ buffer → AreRoutesOf s.network.trips routes → AreReal s c.args.places.now xs ready → SecondSound s routes k.held k.best → SecondSound s routes held best) e
          (subst (λ (xs : List Ready). (s : Source) → s.network.buffer ≡ buffer → AreRoutesOf s.network.trips routes → AreReal s c.args.places.now c.as_slice-first.result.now xs → SecondSound s routes k.held k.best → SecondSound s routes held best)
          f c.ride.ensures.sound));
    } in
    record {
      real = advance_real n q z second before routes foot foot_row rows buffer k first_rows first walked ready boarded held best same are parts le
          c.requires.fits.first c.requires.fits.best c.requires.foot passes ok kept.real;
      closed = λ h. advance_closed n q z second before routes foot foot_row rows buffer k first_rows first walked ready boarded held best same are parts le
          c.requires.fits.first c.requires.fits.best c.requires.foot passes h kept.closed;
    }

pub board-requires-clause-dues : goal.board-requires-clause-dues
board-requires-clause-dues c = c.requires.due.as_many ∙ sym c.requires.fits.first

pub returns-clause-due : goal.returns-clause-due
returns-clause-due c = record { as_many = c.board.ensures.dues ∙ c.requires.due.as_many; due = c.board.ensures.due }
