use Rattle.std.proofs.Common.{◌≡◌, ◌<◌, ◌∙◌, ◌++◌, List, length, take, drop, vec_len, sym, ap, subst}
use Rattle.std.specs.Prelude.{All}
use Rattle.move_model.specs.declared.network.StopNo.{StopNo}
use Rattle.route_split.specs.Route.{IsRoute}
use Rattle.piece_laws.specs.declared.labels.Ready.{Ready}
use Rattle.piece_laws.specs.declared.labels.Second.{Second}
use Rattle.two_trip_rides.specs.First.{Source}
use Rattle.two_trip_rides.specs.Second.{ready_at}
use Rattle.two_trip_labels.specs.First.{AreRoutesOf}
use Rattle.two_trip_labels.specs.Second.{SecondSound}
use Rattle.two_trip_labels.proofs.Viewed.{written}
use Rattle.two_trip_passes.specs.Rides.{RideGoes, IsBoardedLow, AreReal}
use Rattle.witness_prune.proofs.labels.ride.Goals as goal

pub ride_all-requires-clause-whole : goal.ride_all-requires-clause-whole
ride_all-requires-clause-whole c =
    subst (λ (xs : List Second). All (IsRoute (length xs)) c.args.routes.now) (sym c.as_mut_slice-keys.ensures.value) c.requires.whole

pub ride_all-requires-clause-stops : goal.ride_all-requires-clause-stops
ride_all-requires-clause-stops c = c.requires.stops ∙ sym (ap length c.as_mut_slice-keys.ensures.value)

pub ride_all-requires-clause-foot : goal.ride_all-requires-clause-foot
ride_all-requires-clause-foot c = c.requires.foot ∙ sym (ap length c.as_mut_slice-keys.ensures.value)

pub ride_all-requires-clause-places : goal.ride_all-requires-clause-places
ride_all-requires-clause-places c = c.requires.places ∙ sym (ap length c.as_mut_slice-keys.ensures.value)

pub ride_all-requires-clause-first : goal.ride_all-requires-clause-first
ride_all-requires-clause-first c = c.requires.first ∙ sym (ap length c.as_mut_slice-keys.ensures.value)

pub ride_all-requires-clause-boarded : goal.ride_all-requires-clause-boarded
ride_all-requires-clause-boarded c = ap length c.as_mut_slice-labels.ensures.value ∙ c.requires.boarded ∙ sym (ap length c.as_mut_slice-keys.ensures.value)

pub returns-clause-goes : goal.returns-clause-goes
returns-clause-goes c =
    let f = c.ride_all.ensures in
    let boarded = c.ride_all.new.boarded in
    let best = c.ride_all.new.best in
    let rows = c.args.rows.now in
    let many : length boarded ≡ vec_len c.args.boarded.now = f.goes.as_many ∙ c.as_mut_slice-labels.ensures.len in
    let keys : length best ≡ vec_len c.args.best.now = f.goes.goes.best_fall.as_many ∙ c.as_mut_slice-keys.ensures.len in
    subst (λ (xs : List Ready). RideGoes c.args.routes.now c.args.foot.now c.args.second c.args.places.now c.args.table.now.buffer c.args.first.now c.args.ready.now
    c.args.boarded.now.items xs rows c.ride_all.new.rows c.args.best.now.items (take (vec_len c.args.best.now) (best ++ drop (length best) c.args.best.now.items))) (sym (written boarded c.args.boarded.now.items (vec_len c.args.boarded.now) many))
    (subst (λ (xs : List Second). RideGoes c.args.routes.now c.args.foot.now c.args.second c.args.places.now c.args.table.now.buffer c.args.first.now c.args.ready.now
    c.args.boarded.now.items boarded rows c.ride_all.new.rows c.args.best.now.items xs) (sym (written best c.args.best.now.items (vec_len c.args.best.now) keys))
    (subst (λ (xs : List Ready). RideGoes c.args.routes.now c.args.foot.now c.args.second c.args.places.now c.args.table.now.buffer c.args.first.now c.args.ready.now
    xs boarded rows c.ride_all.new.rows c.args.best.now.items best) c.as_mut_slice-labels.ensures.value
    (subst (λ (xs : List Second). RideGoes c.args.routes.now c.args.foot.now c.args.second c.args.places.now c.args.table.now.buffer c.args.first.now c.args.ready.now
    c.as_mut_slice-labels.result.now boarded rows c.ride_all.new.rows xs best) c.as_mut_slice-keys.ensures.value f.goes)))

pub returns-clause-low : goal.returns-clause-low
returns-clause-low c =
    let f = c.ride_all.ensures in
    let boarded = c.ride_all.new.boarded in
    let many : length boarded ≡ vec_len c.args.boarded.now = f.goes.as_many ∙ c.as_mut_slice-labels.ensures.len in
    subst (λ (xs : List Ready). (y : StopNo) → y.0 < length c.args.best.now.items → IsBoardedLow c.args.places.now c.args.first.now c.args.ready.now (ready_at xs y.0) y)
    (sym (written boarded c.args.boarded.now.items (vec_len c.args.boarded.now) many))
    (subst (λ (xs : List Second). (y : StopNo) → y.0 < length xs → IsBoardedLow c.args.places.now c.args.first.now c.args.ready.now (ready_at boarded y.0) y)
    c.as_mut_slice-keys.ensures.value f.low)

pub returns-clause-sound : goal.returns-clause-sound
returns-clause-sound c =
    let f = c.ride_all.ensures in
    let best = c.ride_all.new.best in
    let rows = c.args.rows.now in
    let keys : length best ≡ vec_len c.args.best.now = f.goes.goes.best_fall.as_many ∙ c.as_mut_slice-keys.ensures.len in
    subst (λ (xs : List Second). (s : Source) → s.network.buffer ≡ c.args.table.now.buffer → AreRoutesOf s.network.trips c.args.routes.now → AreReal s c.args.places.now c.args.first.now c.args.ready.now
    → SecondSound s c.args.routes.now rows c.args.best.now.items → SecondSound s c.args.routes.now c.ride_all.new.rows xs) (sym (written best c.args.best.now.items (vec_len c.args.best.now) keys))
    (subst (λ (xs : List Second). (s : Source) → s.network.buffer ≡ c.args.table.now.buffer → AreRoutesOf s.network.trips c.args.routes.now → AreReal s c.args.places.now c.args.first.now c.args.ready.now
    → SecondSound s c.args.routes.now rows xs → SecondSound s c.args.routes.now c.ride_all.new.rows best) c.as_mut_slice-keys.ensures.value f.sound)
