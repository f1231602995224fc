-- What rejects the files of a plan, put together from what its readers answer.
use Rattle.std.proofs.Common.{◌≡◌, ◌≢◌, ◌<◌, ◌≤◌, ◌+◌, ◌++◌, [], ◌∷◌, ℕ, List, length, Bool, true, false, Result, Ok, Err, IfErr, Option, Some, None, inl, inr, refl, sym, subst, ◌⊎◌, codes, arith, nat_lt, if◌then◌else◌}
use Rattle.std.specs.Option.{IsSomeAnd}
use Rattle.std.proofs.lemmas.Bool.Decides.{nat_tests}
use Rattle.std.proofs.lemmas.List.Sorted.{length_permutation, sum_by-IsPermutation}
use Rattle.move_files.specs.declared.outside.Files.{Ghosts}
use Rattle.move_model.specs.declared.network.Network.{Network}
use Rattle.move_model.specs.declared.network.Trip.{Trip}
use Rattle.move_model.specs.declared.refusal.Cause.TheVariants as cause
use Rattle.move_model.specs.declared.refusal.FileKind.{FileKind}
use Rattle.move_model.specs.declared.refusal.FileKind.TheVariants as kind
use Rattle.move_model.specs.declared.refusal.Refusal.{Refusal}
use Rattle.move_model.specs.declared.refusal.Stopped.{Stopped}
use Rattle.move_model.specs.declared.refusal.Stopped.TheVariants as stopped
use Rattle.move_model.specs.Streets.{Streets}
use Rattle.gtfs_feed.specs.declared.feed.Feed.{Feed}
use Rattle.gtfs_feed.specs.declared.feed.FeedBytes.{FeedBytes}
use Rattle.gtfs_feed.specs.declared.feed.FeedStop.{FeedStop}
use Rattle.gtfs_feed.specs.FeedFiles.{FeedAccepted, IsFeedOf, IsFeedRefusal}
use Rattle.gtfs_feed.specs.Table.{Refuses}
use Rattle.service_day.specs.DayTrips.{day_trips, above, most_trips, most_calls, call_count, refusal_of, IsRefusal}
use Rattle.service_day.specs.Order.{IsNumbered}
use Rattle.service_day.specs.Running.{running}
use Rattle.street_graph.specs.declared.point.Point.{Point}
use Rattle.street_graph.specs.Gr.{IsGrRefused}
use Rattle.street_graph.specs.Co.{IsCoRefused}
use Rattle.street_graph.specs.Refused.{IfRefused}
use Rattle.stop_places.specs.declared.near.Near.{Near}
use Rattle.stop_places.specs.Places.{IsPlaceRefusal}
use Rattle.query_table.specs.Queries.{IsQueryRefusal}
use Rattle.top_call.specs.declared.status.Status.{Status}
use Rattle.top_call.specs.declared.status.Status.TheVariants as status
use Rattle.top_call.specs.Words.{Plan, limit_of}
use Rattle.top_call.specs.Status.{HasCause}
use Rattle.top_call.specs.Input.{Held, is_required, IsRead, IsReadable, IsReadableAs, AllReadable, day_order, trip_order, feed_order, AreFeedFiles, IsFeedIn, RunBefore, AreDayTrips, IsGraphIn, ArePointsIn, points_of, IsScaled, IsNetworkIn, InputAccepted}
use Rattle.top_call.specs.Turns.{IsFile, IsNoTurn, IsPointsTurn, IsTurnAmong, IsStopsTurn, IsTurn, of_points, of_places, in_feed, of_graph, of_stops, of_queries}
use Rattle.top_call.specs.Rejected.{status_of, too_long, StopsBy, FitsInput, RejectsFile, RejectsFileAs, RejectsFiles, RejectsFeed, RejectsDay, RejectsGraph, RejectsPoints, RejectsPlaces, RejectsStops, RejectsNetwork, RejectsInput, by_feed_file, by_feed_rule, by_graph_file, by_graph_rule, by_points_file, by_points_rule, by_places_file, by_places_rule, by_points, by_places, by_feed, by_day, by_graph, by_stops, by_network, by_queries_file, by_queries_rule}

weaker : (s : Status) (P Q : Status → Type 0) (T U : FileKind → Type 0) → ((s : Status) → P s → Q s) → ((k : FileKind) → T k → U k) → StopsBy P T s → StopsBy Q U s
unfolding StopsBy
weaker (status.Refused r) P Q T U f g h = f (status.Refused r) h
weaker (status.NoFile k) P Q T U f g h = f (status.NoFile k) h
weaker (status.ReadFault k) P Q T U f g h = g k h
weaker status.NoMemory P Q T U f g h = tt
weaker status.Done P Q T U f g h = tt
weaker status.Usage P Q T U f g h = tt
weaker status.WriteFault P Q T U f g h = tt

-- a file that is missing, or too long
missing-as : (k : FileKind) (o : Option (List ℕ)) → o ≡ None → is_required k ≡ true → RejectsFileAs k o (status.NoFile k)
missing-as k None e needed = (needed, refl)
missing-as k (Some text) e needed = cc e

long-as : (k : FileKind) (o : Option (List ℕ)) → IsSomeAnd o (λ text. limit_of k < length text) → RejectsFileAs k o (status.Refused (too_long k))
long-as k None h = absurd h
long-as k (Some text) h = (h, refl)

pub rejects_missing : (held : Held) (k : FileKind) → held k ≡ None → is_required k ≡ true → StopsBy (RejectsFile held k) (IsFile k) (status.NoFile k)
unfolding StopsBy
rejects_missing held k e needed = missing-as k (held k) e needed

pub rejects_long : (held : Held) (k : FileKind) (n : ℕ) → n ≡ limit_of k + 1 → IsSomeAnd (held k) (λ text. limit_of k < length text)
    → StopsBy (RejectsFile held k) (IsFile k) (status.Refused (record { file = k; row = 0; cause = cause.FileLong n }))
unfolding StopsBy
rejects_long held k n e h = rw e (long-as k (held k) h)

-- what was read can be read
read-as : (k : FileKind) (o : Option (List ℕ)) (text : List ℕ) → o ≡ Some text → length text ≤ limit_of k → IsReadableAs k o
read-as k None text e short = cc e
read-as k (Some other) text e short = let same : other ≡ text = cc e in rw same short

pub is_readable : (held : Held) (k : FileKind) (text : List ℕ) → held k ≡ Some text → length text ≤ limit_of k → IsReadable held k
is_readable held k text stands short = read-as k (held k) text stands short

missing-read : (k : FileKind) (o : Option (List ℕ)) → o ≡ None → is_required k ≡ false → IsReadableAs k o
missing-read k None e free = free
missing-read k (Some text) e free = cc e

pub is_missing : (held : Held) (k : FileKind) → held k ≡ None → is_required k ≡ false → IsReadable held k
is_missing held k e free = missing-read k (held k) e free

-- want of memory rejects nothing
pub wants_memory : (P : Status → Type 0) (T : FileKind → Type 0) (s : Status) → s ≡ status.NoMemory → StopsBy P T s
unfolding StopsBy
wants_memory P T s e = rw e tt

-- files that are read one behind the other
pub rejects_first : (held : Held) (ks more : List FileKind) (s : Status) → RejectsFiles held ks s → RejectsFiles held (ks ++ more) s
rejects_first held [] more s h = absurd h
rejects_first held (k ∷ ks) more s (inl h) = inl h
rejects_first held (k ∷ ks) more s (inr h) = inr (h.0, rejects_first held ks more s h.1)

pub rejects_then : (held : Held) (ks more : List FileKind) (s : Status) → AllReadable held ks → RejectsFiles held more s → RejectsFiles held (ks ++ more) s
rejects_then held [] more s all h = h
rejects_then held (k ∷ ks) more s all h = inr (all.0, rejects_then held ks more s all.1 h)

pub turn_first : (held : Held) (ks more : List FileKind) (j : FileKind) → IsTurnAmong held ks j → IsTurnAmong held (ks ++ more) j
turn_first held [] more j h = absurd h
turn_first held (k ∷ ks) more j (inl h) = inl h
turn_first held (k ∷ ks) more j (inr h) = inr (h.0, turn_first held ks more j h.1)

pub turn_then : (held : Held) (ks more : List FileKind) (j : FileKind) → AllReadable held ks → IsTurnAmong held more j → IsTurnAmong held (ks ++ more) j
turn_then held [] more j all h = h
turn_then held (k ∷ ks) more j all h = inr (all.0, turn_then held ks more j all.1 h)

-- the turn of one file
points-turn : (plan : Plan) (held : Held) (nodes : ℕ) (j : FileKind) → j ≡ kind.Co → plan.co ≢ codes "-" → IsStopsTurn plan held nodes j
points-turn plan held nodes j e named = subst (λ k. IsStopsTurn plan held nodes k) (sym e) (of_points named)

places-turn : (plan : Plan) (held : Held) (nodes : ℕ) (j : FileKind) (points : Option (List Point)) → ArePointsIn plan held nodes points → j ≡ kind.StopNodes
    → IsStopsTurn plan held nodes j
places-turn plan held nodes j points are e = subst (λ k. IsStopsTurn plan held nodes k) (sym e) (of_places points are)

graph-turn : (plan : Plan) (held : Held) (j : FileKind) (feed : Feed) (trips : List Trip) → IsFeedIn held feed → AreDayTrips plan.date feed trips → j ≡ kind.Gr → IsTurn plan held j
graph-turn plan held j feed trips read day e = subst (λ k. IsTurn plan held k) (sym e) (of_graph feed trips read day)

queries-turn : (plan : Plan) (held : Held) (j : FileKind) (n : Network) → IsNetworkIn plan held n → j ≡ kind.Queries → IsTurn plan held j
queries-turn plan held j n told e = subst (λ k. IsTurn plan held k) (sym e) (of_queries n told)

pub readable_both : (held : Held) (ks more : List FileKind) → AllReadable held ks → AllReadable held more → AllReadable held (ks ++ more)
readable_both held [] more a b = b
readable_both held (k ∷ ks) more a b = (a.0, readable_both held ks more a.1 b)

pub files_here : (held : Held) (k : FileKind) (ks : List FileKind) (s : Status) → StopsBy (RejectsFile held k) (IsFile k) s → StopsBy (RejectsFiles held (k ∷ ks)) (IsTurnAmong held (k ∷ ks)) s
files_here held k ks s h = weaker s (RejectsFile held k) (RejectsFiles held (k ∷ ks)) (IsFile k) (IsTurnAmong held (k ∷ ks)) (λ s h. inl h) (λ j e. inl e) h

pub files_behind : (held : Held) (k : FileKind) (ks : List FileKind) (s : Status) → IsReadable held k → StopsBy (RejectsFiles held ks) (IsTurnAmong held ks) s → StopsBy (RejectsFiles held (k ∷ ks)) (IsTurnAmong held (k ∷ ks)) s
files_behind held k ks s read h = weaker s (RejectsFiles held ks) (RejectsFiles held (k ∷ ks)) (IsTurnAmong held ks) (IsTurnAmong held (k ∷ ks)) (λ s h. inr (read, h)) (λ j t. inr (read, t)) h

-- the feed
pub feed_days : (held : Held) (s : Status) → StopsBy (RejectsFiles held day_order) (IsTurnAmong held day_order) s → StopsBy (RejectsFeed held) (IsTurnAmong held feed_order) s
feed_days held s h = weaker s (RejectsFiles held day_order) (RejectsFeed held) (IsTurnAmong held day_order) (IsTurnAmong held feed_order) (λ s h. by_feed_file (rejects_first held day_order trip_order s h)) (λ j t. turn_first held day_order trip_order j t) h

pub feed_trips : (held : Held) (s : Status) → AllReadable held day_order → StopsBy (RejectsFiles held trip_order) (IsTurnAmong held trip_order) s → StopsBy (RejectsFeed held) (IsTurnAmong held feed_order) s
feed_trips held s days h = weaker s (RejectsFiles held trip_order) (RejectsFeed held) (IsTurnAmong held trip_order) (IsTurnAmong held feed_order) (λ s h. by_feed_file (rejects_then held day_order trip_order s days h)) (λ j t. turn_then held day_order trip_order j days t) h

pub feed_rule : (held : Held) (files : FeedBytes) (stop : Stopped) → AllReadable held day_order → AllReadable held trip_order → AreFeedFiles held files
    → Refuses stop (IsFeedRefusal files) → StopsBy (RejectsFeed held) (IsTurnAmong held feed_order) (status_of stop)
unfolding StopsBy
feed_rule held files (stopped.Refused r) a b are h = by_feed_rule files (readable_both held day_order trip_order a b) are h
feed_rule held files stopped.NoMemory a b are h = tt

pub feed_in : (held : Held) (files : FeedBytes) (feed : Feed) → AllReadable held day_order → AllReadable held trip_order → AreFeedFiles held files
    → FeedAccepted files → IsFeedOf files feed → IsFeedIn held feed
feed_in held files feed a b are accepted is =
    record { readable = readable_both held day_order trip_order a b; files = files; hold = are; accepted = accepted; feed_is = is }

-- the trips of the day
pub day_rule : (date : ℕ) (feed : Feed) (before : List Bool) (stop : Stopped) → RunBefore date feed before
    → IsRefusal (day_trips feed (running date feed.services) before) stop → StopsBy (RejectsDay date feed) IsNoTurn (status_of stop)
unfolding StopsBy
day_rule date feed before (stopped.Refused r) ran h = record { before = before; ran = ran; r = r; many = h; told = refl }
day_rule date feed before stopped.NoMemory ran h = tt

-- trips that are not too many are not refused
few-of : (m n : ℕ) → m ≤ most_trips → n ≤ most_calls
    → (if nat_lt most_trips m then Some (above kind.Trips m) else (if nat_lt most_calls n then Some (above kind.StopTimes n) else None)) ≡ None
few-of m n h k =
    let a : nat_lt most_trips m ≡ false = grind (arith, nat_tests) in
    let b : nat_lt most_calls n ≡ false = grind (arith, nat_tests) in
    rw (a, b) refl

pub few_trips : (trips numbered : List Trip) → IsNumbered trips numbered → length numbered ≤ most_trips → call_count numbered ≤ most_calls → refusal_of trips ≡ None
few_trips trips numbered n few calls =
    few-of (length trips) (call_count trips) (omega (arith, length_permutation trips numbered n.same_trips))
    (omega (arith, sum_by-IsPermutation (λ (trip : Trip). length trip.calls) trips numbered n.same_trips))

-- the street graph and the points
pub graph_file : (held : Held) (s : Status) → StopsBy (RejectsFile held kind.Gr) (IsFile kind.Gr) s → StopsBy (RejectsGraph held) (IsFile kind.Gr) s
graph_file held s h = weaker s (RejectsFile held kind.Gr) (RejectsGraph held) (IsFile kind.Gr) (IsFile kind.Gr) (λ s h. by_graph_file h) (λ j e. e) h

pub graph_rule : (held : Held) (text : List ℕ) (stop : Stopped) → IsRead held kind.Gr text
    → IfRefused {T = ℕ} (Err stop) (λ r. (r.file ≡ kind.Gr) × IsGrRefused text r.row r.cause) → StopsBy (RejectsGraph held) (IsFile kind.Gr) (status_of stop)
unfolding StopsBy
graph_rule held text (stopped.Refused r) read h = by_graph_rule text read h.0 h.1
graph_rule held text stopped.NoMemory read h = tt

pub points_file : (plan : Plan) (held : Held) (nodes : ℕ) (s : Status) → plan.co ≢ codes "-" → StopsBy (RejectsFile held kind.Co) (IsFile kind.Co) s → StopsBy (RejectsPoints plan held nodes) (IsPointsTurn plan) s
points_file plan held nodes s named h = weaker s (RejectsFile held kind.Co) (RejectsPoints plan held nodes) (IsFile kind.Co) (IsPointsTurn plan) (λ s h. by_points_file named h) (λ j e. (e, named)) h

pub points_rule : (plan : Plan) (held : Held) (nodes : ℕ) (text : List ℕ) (stop : Stopped) → plan.co ≢ codes "-" → IsRead held kind.Co text
    → IfRefused {T = ℕ} (Err stop) (λ r. (r.file ≡ kind.Co) × IsCoRefused nodes text r.row r.cause) → StopsBy (RejectsPoints plan held nodes) (IsPointsTurn plan) (status_of stop)
unfolding StopsBy
points_rule plan held nodes text (stopped.Refused r) named read h = by_points_rule text named read h.0 h.1
points_rule plan held nodes text stopped.NoMemory named read h = tt

-- the places of the stops
pub places_file : (held : Held) (near : Option Near) (stops : List FeedStop) (nodes : ℕ) (s : Status) → StopsBy (RejectsFile held kind.StopNodes) (IsFile kind.StopNodes) s
    → StopsBy (RejectsPlaces held near stops nodes) (IsFile kind.StopNodes) s
places_file held near stops nodes s h = weaker s (RejectsFile held kind.StopNodes) (RejectsPlaces held near stops nodes) (IsFile kind.StopNodes) (IsFile kind.StopNodes) (λ s h. by_places_file h) (λ j e. e) h

pub places_rule : (held : Held) (near : Option Near) (stops : List FeedStop) (nodes : ℕ) (bytes : Option (List ℕ)) (stop : Stopped) → IsReadable held kind.StopNodes
    → held kind.StopNodes ≡ bytes → ((r : Refusal) → stop ≡ stopped.Refused r → IsPlaceRefusal stops nodes bytes near r) → StopsBy (RejectsPlaces held near stops nodes) (IsFile kind.StopNodes) (status_of stop)
unfolding StopsBy
places_rule held near stops nodes bytes (stopped.Refused r) readable e h = by_places_rule readable (rw e (h r refl))
places_rule held near stops nodes bytes stopped.NoMemory readable e h = tt

pub stops_points : (plan : Plan) (held : Held) (feed : Feed) (nodes : ℕ) (s : Status) → StopsBy (RejectsPoints plan held nodes) (IsPointsTurn plan) s → StopsBy (RejectsStops plan held feed nodes) (IsStopsTurn plan held nodes) s
stops_points plan held feed nodes s h = weaker s (RejectsPoints plan held nodes) (RejectsStops plan held feed nodes) (IsPointsTurn plan) (IsStopsTurn plan held nodes) (λ s h. by_points h) (λ j t. points-turn plan held nodes j t.0 t.1) h

pub stops_places : {T : Type 0} (r : Result T Status) (plan : Plan) (held : Held) (feed : Feed) (nodes : ℕ) (near : Option Near)
    → IfErr r (StopsBy (RejectsPlaces held near feed.stops nodes) (IsFile kind.StopNodes)) → ArePointsIn plan held nodes (points_of near) → IsScaled plan near
    → IfErr r (StopsBy (RejectsStops plan held feed nodes) (IsStopsTurn plan held nodes))
stops_places (Ok x) plan held feed nodes near h points scaled = tt
stops_places (Err s) plan held feed nodes near h points scaled =
    weaker s (RejectsPlaces held near feed.stops nodes) (RejectsStops plan held feed nodes) (IsFile kind.StopNodes) (IsStopsTurn plan held nodes) (λ s h. by_places near points scaled h) (λ j e. places-turn plan held nodes j _ points e) h

-- the network
pub network_feed : (plan : Plan) (held : Held) (s : Status) → StopsBy (RejectsFeed held) (IsTurnAmong held feed_order) s → StopsBy (RejectsNetwork plan held) (IsTurn plan held) s
network_feed plan held s h = weaker s (RejectsFeed held) (RejectsNetwork plan held) (IsTurnAmong held feed_order) (IsTurn plan held) (λ s h. by_feed h) (λ j t. in_feed t) h

pub network_day : (plan : Plan) (held : Held) (s : Status) (feed : Feed) → IsFeedIn held feed → StopsBy (RejectsDay plan.date feed) IsNoTurn s → StopsBy (RejectsNetwork plan held) (IsTurn plan held) s
network_day plan held s feed read h = weaker s (RejectsDay plan.date feed) (RejectsNetwork plan held) IsNoTurn (IsTurn plan held) (λ s h. by_day feed read h) (λ j t. absurd t) h

pub network_graph : (plan : Plan) (held : Held) (s : Status) (feed : Feed) (trips : List Trip) → IsFeedIn held feed → AreDayTrips plan.date feed trips → StopsBy (RejectsGraph held) (IsFile kind.Gr) s
    → StopsBy (RejectsNetwork plan held) (IsTurn plan held) s
network_graph plan held s feed trips read day h = weaker s (RejectsGraph held) (RejectsNetwork plan held) (IsFile kind.Gr) (IsTurn plan held) (λ s h. by_graph feed trips read day h) (λ j e. graph-turn plan held j feed trips read day e) h

pub network_stops : (plan : Plan) (held : Held) (s : Status) (feed : Feed) (trips : List Trip) (g : Streets) → IsFeedIn held feed → AreDayTrips plan.date feed trips → IsGraphIn held g
    → StopsBy (RejectsStops plan held feed g.nodes) (IsStopsTurn plan held g.nodes) s → StopsBy (RejectsNetwork plan held) (IsTurn plan held) s
network_stops plan held s feed trips g read day graph h =
    weaker s (RejectsStops plan held feed g.nodes) (RejectsNetwork plan held) (IsStopsTurn plan held g.nodes) (IsTurn plan held) (λ s h. by_stops feed trips g read day graph h) (λ j t. of_stops feed trips g read day graph t) h

-- the queries
pub input_network : (plan : Plan) (held : Held) (s : Status) → StopsBy (RejectsNetwork plan held) (IsTurn plan held) s → StopsBy (RejectsInput plan held) (IsTurn plan held) s
input_network plan held s h = weaker s (RejectsNetwork plan held) (RejectsInput plan held) (IsTurn plan held) (IsTurn plan held) (λ s h. by_network h) (λ j t. t) h

pub input_file : (plan : Plan) (held : Held) (s : Status) (n : Network) → IsNetworkIn plan held n → StopsBy (RejectsFile held kind.Queries) (IsFile kind.Queries) s → StopsBy (RejectsInput plan held) (IsTurn plan held) s
input_file plan held s n told h = weaker s (RejectsFile held kind.Queries) (RejectsInput plan held) (IsFile kind.Queries) (IsTurn plan held) (λ s h. by_queries_file n told h) (λ j e. queries-turn plan held j n told e) h

pub input_rule : (plan : Plan) (held : Held) (n : Network) (text : List ℕ) (stop : Stopped) → IsNetworkIn plan held n → IsRead held kind.Queries text
    → ((r : Refusal) → stop ≡ stopped.Refused r → IsQueryRefusal n text r) → StopsBy (RejectsInput plan held) (IsTurn plan held) (status_of stop)
unfolding StopsBy
input_rule plan held n text (stopped.Refused r) told read h = by_queries_rule n text told read (h r refl)
input_rule plan held n text stopped.NoMemory told read h = tt

-- where a reader did not stop, the run ends behind all refusals
pub fits_stopped : {F : Type 0} (files : Ghosts F) (plan : Plan) (held : Held) (old new : F) (s : Status) → HasCause plan files old new s
    → StopsBy (RejectsInput plan held) (IsTurn plan held) s → FitsInput plan held s
unfolding HasCause StopsBy FitsInput
fits_stopped files plan held old new (status.Refused r) c h = h
fits_stopped files plan held old new (status.NoFile k) c h = h
fits_stopped files plan held old new (status.ReadFault k) c h = h
fits_stopped files plan held old new status.NoMemory c h = tt
fits_stopped files plan held old new status.Done c h = absurd c
fits_stopped files plan held old new status.Usage c h = absurd c
fits_stopped files plan held old new status.WriteFault c h = absurd c

pub fits_past : (plan : Plan) (held : Held) (s : Status) → (s ≡ status.Done) ⊎ (s ≡ status.WriteFault) ⊎ (s ≡ status.NoMemory) → InputAccepted plan held → FitsInput plan held s
unfolding FitsInput
fits_past plan held s (inl e) a = rw e a
fits_past plan held s (inr (inl e)) a = rw e a
fits_past plan held s (inr (inr e)) a = rw e tt
