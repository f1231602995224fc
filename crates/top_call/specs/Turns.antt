-- When a plan reads a file: the order of reading is stops.txt, calendar.txt, calendar_dates.txt, trips.txt, stop_times.txt,
-- frequencies.txt, GR, CO, stop_nodes.txt, QUERIES. The turn of a file comes where nothing before it in that order is wrong.
--     IsFile kind other                of the one file alone
--     IsNoTurn kind                    of none
--     IsPointsTurn plan kind           of CO, where the words name it
--     IsTurnAmong held kinds kind      of files that are read one behind the other: those before it can be read
--     IsStopsTurn plan held nodes kind of CO, where the words name it, or of stop_nodes.txt behind the points
--     IsTurn plan held kind            of any file: of GR behind the feed and its day, of CO and stop_nodes.txt behind the graph,
--                                      and of QUERIES behind the network
use Rattle.std.specs.Prelude.{◌≡◌, ◌≢◌, ◌⊎◌, ℕ, List, [], ◌∷◌, Option, codes}
use Rattle.move_model.specs.declared.network.Network.{Network}
use Rattle.move_model.specs.declared.network.Trip.{Trip}
use Rattle.move_model.specs.declared.refusal.FileKind.{FileKind}
use Rattle.move_model.specs.declared.refusal.FileKind.TheVariants as kind
use Rattle.move_model.specs.Streets.{Streets}
use Rattle.gtfs_feed.specs.declared.feed.Feed.{Feed}
use Rattle.street_graph.specs.declared.point.Point.{Point}
use Rattle.top_call.specs.Words.{Plan}
use Rattle.top_call.specs.Input.{Held, IsReadable, feed_order, IsFeedIn, AreDayTrips, IsGraphIn, ArePointsIn, IsNetworkIn}

abbrev pub IsFile : FileKind → FileKind → Type 0
IsFile kind other = other ≡ kind

abbrev pub IsNoTurn : FileKind → Type 0
IsNoTurn kind = ⊥

abbrev pub IsPointsTurn : Plan → FileKind → Type 0
IsPointsTurn plan k = (k ≡ kind.Co) × (plan.co ≢ codes "-")

abbrev pub IsTurnAmong : Held → List FileKind → FileKind → Type 0
IsTurnAmong held [] kind = ⊥
IsTurnAmong held (first ∷ kinds) kind = (kind ≡ first) ⊎ (IsReadable held first × IsTurnAmong held kinds kind)

pub data IsStopsTurn (plan : Plan) (held : Held) (nodes : ℕ) : FileKind → Type 0 where
  of_points : plan.co ≢ codes "-" → IsStopsTurn plan held nodes kind.Co
  of_places : (points : Option (List Point)) → ArePointsIn plan held nodes points → IsStopsTurn plan held nodes kind.StopNodes

pub data IsTurn (plan : Plan) (held : Held) : FileKind → Type 0 where
  in_feed : {k : FileKind} → IsTurnAmong held feed_order k → IsTurn plan held k
  of_graph : (feed : Feed) (trips : List Trip) → IsFeedIn held feed → AreDayTrips plan.date feed trips → IsTurn plan held kind.Gr
  of_stops : {k : FileKind} (feed : Feed) (trips : List Trip) (g : Streets) → IsFeedIn held feed → AreDayTrips plan.date feed trips → IsGraphIn held g
      → IsStopsTurn plan held g.nodes k → IsTurn plan held k
  of_queries : (n : Network) → IsNetworkIn plan held n → IsTurn plan held kind.Queries
