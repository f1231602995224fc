-- Two rides from a stop at a second, without what comes after the second.
--     IsChange n u z c           both rides of c can be caught by a passenger at u at second z
--     piece_of c m               the piece that goes on by a walk of m seconds
--     StandsAtStops n c          its rides call at stops of the network
--     IsLessTo n c v key         the change, with the walk on to v, comes before the key
--     HasLess n cs v key         one of the changes does
--     IsNeededChange n u z c     the change is a candidate that nothing betters
use Rattle.std.specs.Prelude.{◌≡◌, ◌≢◌, ℕ, ◌+◌, ◌<◌, ◌≤◌, List, length, Contains}
use Rattle.move_model.specs.declared.network.Network.{Network}
use Rattle.move_model.specs.declared.network.StopNo.{StopNo}
use Rattle.move_model.specs.declared.journey.Key.{Key}
use Rattle.move_model.specs.Network.{IsStopDistance}
use Rattle.move_model.specs.Shortcut.{Piece, IsBettered, IsKeyLess, key_of}
use Rattle.plain_shortcuts.specs.declared.changes.Change.{Change}
use Rattle.plain_shortcuts.specs.Rides.{IsRideOf}

pub record IsChange (n : Network) (u : StopNo) (z : ℕ) (c : Change) : Type 0 where
  pub first_ride : IsRideOf n c.first
  pub second_ride : IsRideOf n c.second
  pub walk1 : ℕ
  pub to_first : IsStopDistance n u c.first.on.stop walk1
  pub in_time1 : z + walk1 + n.buffer ≤ c.first.on.dep
  pub walk2 : ℕ
  pub between : IsStopDistance n c.first.off.stop c.second.on.stop walk2
  pub ready_is : c.ready ≡ c.first.off.arr + walk2
  pub in_time2 : c.ready + n.buffer ≤ c.second.on.dep

abbrev pub piece_of : Change → ℕ → Piece
piece_of c m =
    record {
      first = c.first.ride;
      on1 = c.first.on;
      off1 = c.first.off;
      second = c.second.ride;
      on2 = c.second.on;
      off2 = c.second.off;
      ready = c.ready;
      arrive = c.second.off.arr + m;
    }

-- its rides call at stops of the network
pub record StandsAtStops (n : Network) (c : Change) : Type 0 where
  pub left_first : c.first.off.stop.0 < length n.stops
  pub boarded_second : c.second.on.stop.0 < length n.stops
  pub left_second : c.second.off.stop.0 < length n.stops

pub record IsLessTo (n : Network) (c : Change) (v : StopNo) (key : Key) : Type 0 where
  pub walk : ℕ
  pub to_end : IsStopDistance n c.second.off.stop v walk
  pub less : IsKeyLess (key_of v (piece_of c walk)) key

pub record HasLess (n : Network) (cs : List Change) (v : StopNo) (key : Key) : Type 0 where
  pub change : Change
  pub is_one : Contains cs change
  pub less : IsLessTo n change v key

-- it departs from the stop itself and walks between two stops, and nothing betters it to where its second ride is left
pub record IsNeededChange (n : Network) (u : StopNo) (z : ℕ) (c : Change) : Type 0 where
  pub is_change : IsChange n u z c
  pub at_stop : c.first.on.stop ≡ u
  pub departs : c.first.on.dep ≡ z + n.buffer
  pub walks : c.first.off.stop ≢ c.second.on.stop
  pub unbettered : ¬ (IsBettered n u z c.second.off.stop (piece_of c 0))
