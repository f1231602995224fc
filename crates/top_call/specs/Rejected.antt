-- The first thing that is wrong with the files of a plan. It is told by a status: NoFile of a required file that is missing, or Refused.
-- The files are read in the order stops.txt, calendar.txt, calendar_dates.txt, trips.txt, stop_times.txt, frequencies.txt, GR, CO,
-- stop_nodes.txt, QUERIES. The rules of the feed are looked at behind all its files, those of each other file behind that file.
--     too_long kind                      the refusal of a file that is too long
--     RejectsFile held kind status       the file is missing and required, or too long
--     RejectsFiles held kinds status     the first of these files for which that holds
--     RejectsFeed held status            a file of the feed; or else its first broken rule
--     RejectsDay date feed status        the trips of the day are too many
--     RejectsGraph held status           the file GR; or else its first broken rule
--     RejectsPoints plan held n status   the file CO, where it is not `-`; or else its first broken rule
--     RejectsPlaces held near stops n status   stop_nodes.txt; or else its first broken rule, or the first stop without a place
--     RejectsStops plan held feed n status   the points; or else the places of the stops
--     RejectsNetwork plan held status    the feed; or else its day; or else the graph; or else the stops
--     RejectsInput plan held status      the network; or else the file QUERIES; or else its first broken rule
--     StopsBy Rejects IsTurn status      the status rejects, or a read failed of a file whose turn came
--     ComesUnlessStopped status result   the status came, unless memory was wanting or a read failed
--     NoneRose before now                none of the counts that are kept for names rose
--     FitsInput plan held status         a status fits the input: it came behind all refusals where they are past, and else it is the first,
--                                        or a read failed of a file whose turn came
use Rattle.std.specs.Prelude.{◌≡◌, ◌≢◌, ◌<◌, ◌+◌, ◌⊎◌, ℕ, List, [], ◌∷◌, length, Bool, true, Option, Some, None, codes}
use Rattle.move_files.specs.Outside.{Rose}
use Rattle.move_model.specs.declared.network.Network.{Network}
use Rattle.move_model.specs.declared.network.Trip.{Trip}
use Rattle.move_model.specs.declared.refusal.Cause.TheVariants as cause
use Rattle.move_model.specs.declared.refusal.FileKind.{FileKind}
use Rattle.move_model.specs.declared.refusal.FileKind.TheVariants as kind
use Rattle.move_model.specs.declared.refusal.Refusal.{Refusal}
use Rattle.move_model.specs.declared.refusal.Stopped.{Stopped}
use Rattle.move_model.specs.declared.refusal.Stopped.TheVariants as stopped
use Rattle.move_model.specs.Streets.{Streets}
use Rattle.gtfs_feed.specs.declared.feed.Feed.{Feed}
use Rattle.gtfs_feed.specs.declared.feed.FeedBytes.{FeedBytes}
use Rattle.gtfs_feed.specs.declared.feed.FeedStop.{FeedStop}
use Rattle.gtfs_feed.specs.FeedFiles.{IsFeedRefusal}
use Rattle.service_day.specs.Running.{running}
use Rattle.service_day.specs.DayTrips.{day_trips, refusal_of}
use Rattle.street_graph.specs.Gr.{IsGrRefused}
use Rattle.street_graph.specs.Co.{IsCoRefused}
use Rattle.stop_places.specs.declared.near.Near.{Near}
use Rattle.stop_places.specs.Places.{IsPlaceRefusal}
use Rattle.query_table.specs.Queries.{IsQueryRefusal}
use Rattle.top_call.specs.declared.status.Status.{Status}
use Rattle.top_call.specs.declared.status.Status.TheVariants as status
use Rattle.top_call.specs.Words.{Plan, limit_of}
use Rattle.top_call.specs.Turns.{IsTurn}
use Rattle.top_call.specs.Input.{Held, is_required, IsRead, IsReadable, AllReadable, feed_order, AreFeedFiles, IsFeedIn, RunBefore, AreDayTrips, IsGraphIn, ArePointsIn, points_of, IsScaled, IsNetworkIn, InputAccepted}

-- the number of bytes that were read shows that there are too many
abbrev pub too_long : FileKind → Refusal
too_long kind = record { file = kind; row = 0; cause = cause.FileLong (limit_of kind + 1) }

abbrev pub RejectsFileAs : FileKind → Option (List ℕ) → Status → Type 0
RejectsFileAs kind None s = (is_required kind ≡ true) × (s ≡ status.NoFile kind)
RejectsFileAs kind (Some text) s = (limit_of kind < length text) × (s ≡ status.Refused (too_long kind))

abbrev pub RejectsFile : Held → FileKind → Status → Type 0
RejectsFile held kind s = RejectsFileAs kind (held kind) s

-- the file that is read first; or, where it can be read, one of the later files
abbrev pub RejectsFiles : Held → List FileKind → Status → Type 0
RejectsFiles held [] s = ⊥
RejectsFiles held (kind ∷ kinds) s = RejectsFile held kind s ⊎ (IsReadable held kind × RejectsFiles held kinds s)

pub data RejectsFeed (held : Held) : Status → Type 0 where
  by_feed_file : {s : Status} → RejectsFiles held feed_order s → RejectsFeed held s
  by_feed_rule : {r : Refusal} (files : FeedBytes) → AllReadable held feed_order → AreFeedFiles held files → IsFeedRefusal files r.file r.row r.cause
      → RejectsFeed held (status.Refused r)

pub record RejectsDay (date : ℕ) (feed : Feed) (s : Status) : Type 0 where
  pub before : List Bool
  pub ran : RunBefore date feed before
  pub r : Refusal
  pub many : refusal_of (day_trips feed (running date feed.services) before) ≡ Some r
  pub told : s ≡ status.Refused r

pub data RejectsGraph (held : Held) : Status → Type 0 where
  by_graph_file : {s : Status} → RejectsFile held kind.Gr s → RejectsGraph held s
  by_graph_rule : {r : Refusal} (text : List ℕ) → IsRead held kind.Gr text → r.file ≡ kind.Gr → IsGrRefused text r.row r.cause
      → RejectsGraph held (status.Refused r)

pub data RejectsPoints (plan : Plan) (held : Held) (nodes : ℕ) : Status → Type 0 where
  by_points_file : {s : Status} → plan.co ≢ codes "-" → RejectsFile held kind.Co s → RejectsPoints plan held nodes s
  by_points_rule : {r : Refusal} (text : List ℕ) → plan.co ≢ codes "-" → IsRead held kind.Co text → r.file ≡ kind.Co → IsCoRefused nodes text r.row r.cause
      → RejectsPoints plan held nodes (status.Refused r)

pub data RejectsPlaces (held : Held) (near : Option Near) (stops : List FeedStop) (nodes : ℕ) : Status → Type 0 where
  by_places_file : {s : Status} → RejectsFile held kind.StopNodes s → RejectsPlaces held near stops nodes s
  by_places_rule : {r : Refusal} → IsReadable held kind.StopNodes → IsPlaceRefusal stops nodes (held kind.StopNodes) near r
      → RejectsPlaces held near stops nodes (status.Refused r)

pub data RejectsStops (plan : Plan) (held : Held) (feed : Feed) (nodes : ℕ) : Status → Type 0 where
  by_points : {s : Status} → RejectsPoints plan held nodes s → RejectsStops plan held feed nodes s
  by_places : {s : Status} (near : Option Near) → ArePointsIn plan held nodes (points_of near) → IsScaled plan near
      → RejectsPlaces held near feed.stops nodes s → RejectsStops plan held feed nodes s

pub data RejectsNetwork (plan : Plan) (held : Held) : Status → Type 0 where
  by_feed : {s : Status} → RejectsFeed held s → RejectsNetwork plan held s
  by_day : {s : Status} (feed : Feed) → IsFeedIn held feed → RejectsDay plan.date feed s → RejectsNetwork plan held s
  by_graph : {s : Status} (feed : Feed) (trips : List Trip) → IsFeedIn held feed → AreDayTrips plan.date feed trips → RejectsGraph held s
      → RejectsNetwork plan held s
  by_stops : {s : Status} (feed : Feed) (trips : List Trip) (g : Streets) → IsFeedIn held feed → AreDayTrips plan.date feed trips → IsGraphIn held g
      → RejectsStops plan held feed g.nodes s → RejectsNetwork plan held s

pub data RejectsInput (plan : Plan) (held : Held) : Status → Type 0 where
  by_network : {s : Status} → RejectsNetwork plan held s → RejectsInput plan held s
  by_queries_file : {s : Status} (n : Network) → IsNetworkIn plan held n → RejectsFile held kind.Queries s → RejectsInput plan held s
  by_queries_rule : {r : Refusal} (n : Network) (text : List ℕ) → IsNetworkIn plan held n → IsRead held kind.Queries text → IsQueryRefusal n text r
      → RejectsInput plan held (status.Refused r)

-- a stop of a reader: want of memory tells nothing of the input
abbrev pub status_of : Stopped → Status
status_of (stopped.Refused r) = status.Refused r
status_of stopped.NoMemory = status.NoMemory

-- a stop of the reading: a status that rejects is one of these, and a read failed of a file whose turn came; nothing is said of
-- the others
unfoldable pub StopsBy : (Status → Type 0) → (FileKind → Type 0) → Status → Type 0
StopsBy Rejects IsTurn (status.Refused r) = Rejects (status.Refused r)
StopsBy Rejects IsTurn (status.NoFile k) = Rejects (status.NoFile k)
StopsBy Rejects IsTurn (status.ReadFault k) = IsTurn k
StopsBy Rejects IsTurn status.NoMemory = Unit {0}
StopsBy Rejects IsTurn status.Done = Unit {0}
StopsBy Rejects IsTurn status.Usage = Unit {0}
StopsBy Rejects IsTurn status.WriteFault = Unit {0}

abbrev pub ComesUnlessStopped : Status → Status → Type 0
ComesUnlessStopped s result = (result ≡ s) ⊎ (result ≡ status.NoMemory) ⊎ ((k : FileKind) × (result ≡ status.ReadFault k))

abbrev pub NoneRose : (List ℕ → ℕ) → (List ℕ → ℕ) → Type 0
NoneRose before now = (name : List ℕ) → Rose (before name) (now name) → ⊥

-- Done and a failed write come where all refusals are past, and a read fails of a file whose turn comes
unfoldable pub FitsInput : Plan → Held → Status → Type 0
FitsInput plan held (status.Refused r) = RejectsInput plan held (status.Refused r)
FitsInput plan held (status.NoFile k) = RejectsInput plan held (status.NoFile k)
FitsInput plan held (status.ReadFault k) = IsTurn plan held k
FitsInput plan held status.NoMemory = Unit {0}
FitsInput plan held status.Done = InputAccepted plan held
FitsInput plan held status.WriteFault = InputAccepted plan held
FitsInput plan held status.Usage = ⊥
