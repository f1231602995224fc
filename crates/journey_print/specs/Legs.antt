-- The legs of a journey as records.
--     least_arc arcs p q           the seconds of the least arc from p to q, or None where no arc has these ends
--     walk_record q j p r p' e     an arc that is walked from p at second r to p' at second e
--     walk_records q j arcs vs r   the arcs of a walk that begins at second r; none where it stays
--     ride_record q j n x on off   a ride on the trip x from the one call to the other
--     ride_records q j n ride      the ride, where the network has it
--     left_at n ride               the second at which the ride is left
--     leg_records q j n ws rs r    the walks and rides of a journey from second r on
--     IsPrintable n finding        the finding's journey is one of the network, of seconds that 64 bits hold
use Rattle.std.specs.Prelude.{◌+◌, ◌<◌, ◌≤◌, ◌^◌, ◌⊎◌, ◌==◌, ◌&&◌, ℕ, List, [], ◌∷◌, ◌++◌, slice_get, codes, decimal, min, unwrap_or, if◌then◌else◌, Option, Some, None}
use Rattle.move_model.specs.declared.network.Network.{Network}
use Rattle.move_model.specs.declared.network.NodeNo.{NodeNo}
use Rattle.move_model.specs.declared.network.Arc.{Arc}
use Rattle.move_model.specs.declared.network.StopNo.{StopNo}
use Rattle.move_model.specs.declared.network.Stop.{Stop}
use Rattle.move_model.specs.declared.network.Trip.{Trip}
use Rattle.move_model.specs.declared.network.Call.{Call}
use Rattle.move_model.specs.declared.journey.Ride.{Ride}
use Rattle.move_model.specs.declared.journey.Finding.{Finding}
use Rattle.move_model.specs.Network.{node_of}
use Rattle.move_model.specs.Journey.{IsJourney}
use Rattle.move_model.specs.Time.{time_text}

-- the lesser of two optional seconds; None counts as more than any
abbrev pub lesser : Option ℕ → Option ℕ → Option ℕ
lesser None o = o
lesser (Some l) None = Some l
lesser (Some l) (Some m) = Some (min l m)

-- the seconds of an arc with these ends
unfoldable pub seconds_between : Arc → NodeNo → NodeNo → Option ℕ
seconds_between arc p q = if (arc.from.0 == p.0) && (arc.to.0 == q.0) then Some arc.seconds else None

-- the seconds of the least arc, or None where no arc has these ends
unfoldable pub least_arc : List Arc → NodeNo → NodeNo → Option ℕ
least_arc [] p q = None
least_arc (arc ∷ arcs) p q = lesser (seconds_between arc p q) (least_arc arcs p q)

-- 0 where no arc has these ends
abbrev pub least_seconds : List Arc → NodeNo → NodeNo → ℕ
least_seconds arcs p q = unwrap_or (least_arc arcs p q) 0

-- along one arc; the words of its ends stay empty
unfoldable pub walk_record : ℕ → ℕ → NodeNo → ℕ → NodeNo → ℕ → List (List ℕ)
walk_record query journey from begins to ends = decimal query ∷ decimal journey ∷ codes "walk" ∷ [] ∷ [] ∷ decimal from.0
    ∷ [] ∷ decimal to.0 ∷ time_text begins ∷ time_text ends ∷ [] ∷ []

-- each arc of the walk begins when the one before it ends
abbrev pub walk_records : ℕ → ℕ → List Arc → List NodeNo → ℕ → List (List (List ℕ))
walk_records query journey arcs [] begins = []
walk_records query journey arcs (v ∷ []) begins = []
walk_records query journey arcs (v ∷ w ∷ walk) begins =
    walk_record query journey v begins w (begins + least_seconds arcs v w)
    ∷ walk_records query journey arcs (w ∷ walk) (begins + least_seconds arcs v w)

-- the id of a stop, empty where there is no such stop
abbrev pub name_of_stop : Option Stop → List ℕ
name_of_stop None = []
name_of_stop (Some stop) = stop.name

abbrev pub name_of : Network → StopNo → List ℕ
name_of n x = name_of_stop (slice_get n.stops x.0)

-- the departure of the one call and the arrival of the other
unfoldable pub ride_record : ℕ → ℕ → Network → Trip → Call → Call → List (List ℕ)
ride_record query journey n trip on off = decimal query ∷ decimal journey ∷ codes "ride" ∷ trip.name
    ∷ name_of n on.stop ∷ decimal (node_of n on.stop).0 ∷ name_of n off.stop ∷ decimal (node_of n off.stop).0
    ∷ time_text on.dep ∷ time_text off.arr ∷ [] ∷ []

abbrev pub call_at : Option Trip → ℕ → Option Call
call_at None k = None
call_at (Some trip) k = slice_get trip.calls k

abbrev pub arrival_at : Option Call → ℕ
arrival_at None = 0
arrival_at (Some call) = call.arr

abbrev pub left_at : Network → Ride → ℕ
left_at n ride = arrival_at (call_at (slice_get n.trips ride.trip.0) ride.alight)

abbrev pub ride_between : ℕ → ℕ → Network → Option Trip → Option Call → Option Call → List (List (List ℕ))
ride_between query journey n (Some trip) (Some on) (Some off) = ride_record query journey n trip on off ∷ []
ride_between query journey n _ _ _ = []

abbrev pub ride_records : ℕ → ℕ → Network → Ride → List (List (List ℕ))
ride_records query journey n ride =
    ride_between query journey n (slice_get n.trips ride.trip.0) (call_at (slice_get n.trips ride.trip.0) ride.board)
    (call_at (slice_get n.trips ride.trip.0) ride.alight)

-- a walk begins when what stands before it ends
abbrev pub leg_records : ℕ → ℕ → Network → List (List NodeNo) → List Ride → ℕ → List (List (List ℕ))
leg_records query journey n [] rides begins = []
leg_records query journey n (walk ∷ walks) [] begins = walk_records query journey n.arcs walk begins
leg_records query journey n (walk ∷ walks) (ride ∷ rides) begins =
    walk_records query journey n.arcs walk begins ++ (ride_records query journey n ride ++ leg_records query journey n walks rides (left_at n ride))

pub record IsPrintable (n : Network) (finding : Finding) : Type 0 where
  pub from : NodeNo
  pub to : NodeNo
  pub arrive : ℕ
  pub leads : IsJourney n from finding.journey to arrive
  pub within : (arrive ≤ finding.pair.arrive) ⊎ (arrive < 2 ^ 64)
