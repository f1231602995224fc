-- What the files of a plan tell.
--     held plan holds kind           what the plan's file of a kind holds, or None where it is missing
--     IsRead held kind text          the file is there, and is not too long
--     IsReadable held kind           the file is there, or need not be, and is not too long
--     feed_order                     the files of a feed in the order in which they are read: day_order, and then trip_order
--     HoldsDays, HoldsTrips          these are the bytes of the feed's files
--     AreFeedFiles held files        the same of all files of the feed
--     IsFeedIn held feed             the feed's files are accepted, and hold this feed
--     AreDayTrips date feed trips    the feed's trips of the date and night trips of the day before, in their order; they are not too many
--     IsGraphIn held g               the file GR is accepted, and holds this street graph
--     ArePointsIn plan held n points the file CO is accepted for n vertices, and holds these points; None where CO is `-`
--     AreStopsIn plan held feed n stops      stop_nodes.txt is accepted, and the stops are placed by it and by the points
--     IsNetworkIn plan held n        the network of the files
--     AreQueriesIn held n queries    the file QUERIES is accepted for the network, and holds these queries
--     IsInput plan held n queries    the files are accepted, with this network and these queries
--     InputAccepted plan held        the files are accepted
use Rattle.std.specs.Prelude.{◌≡◌, ◌≢◌, ◌≤◌, ℕ, List, [], ◌∷◌, ◌++◌, length, Bool, true, false, map, Option, Some, None, option_map, option_copied, codes}
use Rattle.std.specs.List.{AllByRecursion}
use Rattle.move_model.specs.declared.network.Network.{Network}
use Rattle.move_model.specs.declared.network.Stop.{Stop}
use Rattle.move_model.specs.declared.network.Trip.{Trip}
use Rattle.move_model.specs.declared.query.Query.{Query}
use Rattle.move_model.specs.declared.refusal.FileKind.{FileKind}
use Rattle.move_model.specs.declared.refusal.FileKind.TheVariants as kind
use Rattle.move_model.specs.Streets.{Streets}
use Rattle.move_model.specs.Network.{streets}
use Rattle.gtfs_feed.specs.declared.feed.Feed.{Feed}
use Rattle.gtfs_feed.specs.declared.feed.FeedBytes.{FeedBytes}
use Rattle.gtfs_feed.specs.FeedFiles.{FeedAccepted, IsFeedOf}
use Rattle.service_day.specs.Day.{first_day}
use Rattle.service_day.specs.Running.{running, AreRunningBefore}
use Rattle.service_day.specs.DayTrips.{day_trips, refusal_of}
use Rattle.service_day.specs.Order.{IsNumbered}
use Rattle.street_graph.specs.declared.point.Point.{Point}
use Rattle.street_graph.specs.Gr.{IsGrGraph}
use Rattle.street_graph.specs.Co.{AreCoPoints}
use Rattle.stop_places.specs.declared.near.Near.{Near}
use Rattle.stop_places.specs.Places.{ArePlaced}
use Rattle.stop_places.specs.Table.{TableAccepted, table_vertex}
use Rattle.query_table.specs.Queries.{IsQueryTable, queries_of}
use Rattle.top_call.specs.declared.feed.DayFiles.{DayFiles}
use Rattle.top_call.specs.declared.feed.TripFiles.{TripFiles}
use Rattle.top_call.specs.Words.{Plan, name_in, limit_of}

-- what each kind of file holds
abbrev pub Held : Type 0
Held = FileKind → Option (List ℕ)

abbrev pub held : Plan → (List ℕ → Option (List ℕ)) → Held
held plan holds kind = holds (name_in plan kind)

-- a file that may not be missing
abbrev pub is_required : FileKind → Bool
is_required kind.Calendar = false
is_required kind.CalendarDates = false
is_required kind.Frequencies = false
is_required kind.StopNodes = false
is_required _ = true

pub record IsRead (held : Held) (kind : FileKind) (text : List ℕ) : Type 0 where
  pub stands : held kind ≡ Some text
  pub short : length text ≤ limit_of kind

abbrev pub IsReadableAs : FileKind → Option (List ℕ) → Type 0
IsReadableAs kind None = is_required kind ≡ false
IsReadableAs kind (Some text) = length text ≤ limit_of kind

abbrev pub IsReadable : Held → FileKind → Type 0
IsReadable held kind = IsReadableAs kind (held kind)

abbrev pub AllReadable : Held → List FileKind → Type 0
AllReadable held kinds = AllByRecursion (IsReadable held) kinds

-- the files of its stops and days, and those of its trips
abbrev pub day_order : List FileKind
day_order = kind.Stops ∷ kind.Calendar ∷ kind.CalendarDates ∷ []

abbrev pub trip_order : List FileKind
trip_order = kind.Trips ∷ kind.StopTimes ∷ kind.Frequencies ∷ []

abbrev pub feed_order : List FileKind
feed_order = day_order ++ trip_order

pub record HoldsDays (held : Held) (files : DayFiles) : Type 0 where
  pub stops : held kind.Stops ≡ Some files.stops.items
  pub calendar : held kind.Calendar ≡ option_map (λ bytes. bytes.items) files.calendar
  pub dates : held kind.CalendarDates ≡ option_map (λ bytes. bytes.items) files.dates

pub record HoldsTrips (held : Held) (files : TripFiles) : Type 0 where
  pub trips : held kind.Trips ≡ Some files.trips.items
  pub stop_times : held kind.StopTimes ≡ Some files.stop_times.items
  pub frequencies : held kind.Frequencies ≡ option_map (λ bytes. bytes.items) files.frequencies

pub record AreFeedFiles (held : Held) (files : FeedBytes) : Type 0 where
  pub stops : held kind.Stops ≡ Some files.stops.now
  pub calendar : held kind.Calendar ≡ option_copied files.calendar
  pub dates : held kind.CalendarDates ≡ option_copied files.dates
  pub trips : held kind.Trips ≡ Some files.trips.now
  pub stop_times : held kind.StopTimes ≡ Some files.stop_times.now
  pub frequencies : held kind.Frequencies ≡ option_copied files.frequencies

pub record IsFeedIn (held : Held) (feed : Feed) : Type 0 where
  pub readable : AllReadable held feed_order
  pub files : FeedBytes
  pub hold : AreFeedFiles held files
  pub accepted : FeedAccepted files
  pub feed_is : IsFeedOf files feed

-- the services that run on the day before; on the first day there are none
pub record RunBefore (date : ℕ) (feed : Feed) (before : List Bool) : Type 0 where
  pub of_first : date ≡ first_day → before ≡ map (λ service. false) feed.services
  pub of_later : date ≢ first_day → AreRunningBefore date feed.services before

pub record AreDayTrips (date : ℕ) (feed : Feed) (trips : List Trip) : Type 0 where
  pub before : List Bool
  pub ran : RunBefore date feed before
  pub few : refusal_of (day_trips feed (running date feed.services) before) ≡ None
  pub numbered : IsNumbered (day_trips feed (running date feed.services) before) trips

pub record IsGraphIn (held : Held) (g : Streets) : Type 0 where
  pub text : List ℕ
  pub read : IsRead held kind.Gr text
  pub graph_is : IsGrGraph text g

abbrev pub ArePointsIn : Plan → Held → ℕ → Option (List Point) → Type 0
ArePointsIn plan held nodes None = plan.co ≡ codes "-"
ArePointsIn plan held nodes (Some points) =
    (plan.co ≢ codes "-") × ((text : List ℕ) × IsRead held kind.Co text × AreCoPoints nodes text points)

-- the points, with the word SCALE
abbrev pub points_of : Option Near → Option (List Point)
points_of near = option_map (λ near. near.grid.now) near

abbrev pub IsScaled : Plan → Option Near → Type 0
IsScaled plan None = Unit {0}
IsScaled plan (Some near) = near.scale ≡ plan.scale

pub record AreStopsIn (plan : Plan) (held : Held) (feed : Feed) (nodes : ℕ) (stops : List Stop) : Type 0 where
  pub near : Option Near
  pub points : ArePointsIn plan held nodes (points_of near)
  pub scaled : IsScaled plan near
  pub readable : IsReadable held kind.StopNodes
  pub accepted : TableAccepted feed.stops nodes (held kind.StopNodes)
  pub placed : ArePlaced (table_vertex (held kind.StopNodes)) near feed.stops stops

pub record IsNetworkIn (plan : Plan) (held : Held) (n : Network) : Type 0 where
  pub feed : Feed
  pub read : IsFeedIn held feed
  pub trips : AreDayTrips plan.date feed n.trips
  pub graph : IsGraphIn held (streets n)
  pub stops : AreStopsIn plan held feed n.nodes n.stops
  pub buffer : n.buffer ≡ plan.buffer

pub record AreQueriesIn (held : Held) (n : Network) (queries : List Query) : Type 0 where
  pub text : List ℕ
  pub read : IsRead held kind.Queries text
  pub accepted : IsQueryTable n text
  pub queries_are : queries ≡ queries_of n text

-- the network and the queries of the files
pub record IsInput (plan : Plan) (held : Held) (n : Network) (queries : List Query) : Type 0 where
  pub told : IsNetworkIn plan held n
  pub asked : AreQueriesIn held n queries

pub record InputAccepted (plan : Plan) (held : Held) : Type 0 where
  pub network : Network
  pub queries : List Query
  pub input : IsInput plan held network queries
