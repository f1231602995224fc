-- The first section that is cut off or breaks a rule.
use Rattle.std.proofs.Common.{◌≡◌, ℕ, suc, ◌-◌, ◌<◌, List, [], ◌++◌, length, get_or, refl, sym, subst, arith}
use Rattle.std.specs.List.{flat_map}
use Rattle.move_model.specs.declared.network.Network.{Network}
use Rattle.move_model.specs.declared.network.Stop.{Stop}
use Rattle.walk_hierarchy.specs.declared.arcs.UpDown.{UpDown}
use Rattle.walk_hierarchy.specs.Hierarchy.{Parts}
use Rattle.bucket_walks.specs.declared.bucket.Bucket.{Bucket}
use Rattle.network_file.specs.declared.compiled.Compiled.{Compiled}
use Rattle.network_bytes.specs.Bytes.{word, short_list, long_list}
use Rattle.network_bytes.specs.Forms.{stop_form, trip_form, up_down_form, bucket_form, shortcut_form}
use Rattle.network_codec.specs.declared.version.Version.{Version}
use Rattle.network_codec.specs.Form.{streets_form, sections}
use Rattle.network_codec.specs.Rules.{streets_alone, graph_of, AreStreets, AreStops, AreTrips, AreRanksOf, AreUp, AreDown, AreEntries, AreShortcuts, KeepsSections}
use Rattle.network_codec.specs.File.{Begins, IsBrokenAt}
use Rattle.network_sections.specs.Front.{HasNoneInFront}
use Rattle.network_sections.specs.Network.{with_stops, with_trips}
use Rattle.network_bytes.specs.declared.stop.ReadStop.{ReadStop}
use Rattle.network_bytes.specs.declared.stop.ReadStop.TheVariants as read
use Rattle.network_codec.specs.declared.damage.DecodeStop.{DecodeStop}
use Rattle.network_decode.specs.Stop.{stop_of, IsBrokenIn}
use Rattle.network_decode.specs.Value.{parts, network_alone, streets_alone_of}
use Rattle.network_decode.proofs.ChainLemmas.{shorter}
use Rattle.network_decode.proofs.AgreeLemmas.{Agree, agree, with_own_stops, up_of, nodes_are, many_are}
use Rattle.network_decode.proofs.BeginLemmas.{ranks_alone, up_alone}

-- no value that agrees with the sections before this one has this one in front of the bytes behind them
broken_at : (k : ℕ) (v : Version) (c : Compiled) (body bytes : List ℕ) → k < 9 → Begins k v c body bytes
    → ((d : Compiled) (s : List ℕ) → Agree k c d → KeepsSections (suc k) v d → bytes ≡ get_or (sections v d) k [] ++ s → ⊥) → IsBrokenAt (suc k) v body
broken_at k v c body bytes lt before none = record {
  numbered = (omega arith, omega arith);
  c = c;
  rest = bytes;
  before = subst (λ (n : ℕ). Begins n v c body bytes) (let e : k ≡ suc k - 1 = omega arith in e) before;
  none = λ d s found.
      let same = agree k v c d body bytes (get_or (sections v d) k [] ++ s) (omega arith) before (shorter k v d body s lt found) in
      none d s same.0 found.rules same.1;
}

pub broken-streets : (v : Version) (n : Network) (body bytes : List ℕ) → Begins 0 v (network_alone n) body bytes → HasNoneInFront (streets_form v) (AreStreets v) bytes → IsBrokenAt 1 v body
broken-streets v n body bytes before none = broken_at 0 v (network_alone n) body bytes (omega arith) before
    (λ d s same rules e. none d.network s (rules.streets (omega arith)) e)

-- the rules of stops are those over the streets of the network
stops_over : (n m : Network) → streets_alone n ≡ streets_alone m → AreStops m → AreStops (with_stops n m.stops)
stops_over n m same are =
    let moved : AreStops (with_stops (streets_alone n) m.stops) = subst (λ (x : Network). AreStops (with_stops x m.stops)) (sym same) (with_own_stops m are) in
    record { few = moved.few; named = moved.named; differ = moved.differ; keep = moved.keep }

pub broken-stops : (v : Version) (n : Network) (body bytes : List ℕ) → Begins 1 v (network_alone n) body bytes → HasNoneInFront (short_list stop_form) (λ stops. AreStops (with_stops n stops)) bytes → IsBrokenAt 2 v body
broken-stops v n body bytes before none = broken_at 1 v (network_alone n) body bytes (omega arith) before
    (λ d s same rules e. none d.network.stops s (stops_over n d.network (same 1 (omega arith) (omega arith)) (rules.stops (omega arith))) e)

abbrev with_both : List Stop → Network → Network
with_both stops n = record { nodes = n.nodes; arcs = n.arcs; stops = stops; trips = []; buffer = n.buffer }

-- the rules of trips are those over the streets and stops of the network
trips_over : (n m : Network) → streets_alone n ≡ streets_alone m → n.stops ≡ m.stops → AreTrips m → AreTrips (with_trips n m.trips)
trips_over n m streets stops are =
    let own : AreTrips (with_trips (with_both m.stops m) m.trips) = are in
    let moved : AreTrips (with_trips (with_both m.stops (streets_alone n)) m.trips) =
    subst (λ (x : Network). AreTrips (with_trips (with_both m.stops x) m.trips)) (sym streets) own in
    subst (λ (x : List Stop). AreTrips (with_trips (with_both x (streets_alone n)) m.trips)) (sym stops) moved

pub broken-trips : (v : Version) (n : Network) (body bytes : List ℕ) → Begins 2 v (network_alone n) body bytes → HasNoneInFront (short_list trip_form) (λ trips. AreTrips (with_trips n trips)) bytes → IsBrokenAt 3 v body
broken-trips v n body bytes before none = broken_at 2 v (network_alone n) body bytes (omega arith) before
    (λ d s same rules e. none d.network.trips s
    (trips_over n d.network (same 1 (omega arith) (omega arith)) (same 2 (omega arith) (omega arith)) (rules.trips (omega arith))) e)

pub broken-ranks : (v : Version) (n : Network) (body bytes : List ℕ) → Begins 3 v (network_alone n) body bytes → HasNoneInFront (flat_map word) (AreRanksOf n.nodes) bytes → IsBrokenAt 4 v body
broken-ranks v n body bytes before none = broken_at 3 v (network_alone n) body bytes (omega arith) before
    (λ d s same rules e. none d.hierarchy.ranks s
    (subst (λ (k : ℕ). AreRanksOf k d.hierarchy.ranks) (sym (nodes_are (network_alone n) d (same 1 (omega arith) (omega arith)))) (rules.ranks (omega arith))) e)

pub broken-up : (v : Version) (n : Network) (ranks : List ℕ) (body bytes : List ℕ) → Begins 4 v (streets_alone_of n (ranks_alone ranks)) body bytes
    → HasNoneInFront (long_list up_down_form) (λ up. AreUp (record { ranks = ranks; up = up; down = [] })) bytes → IsBrokenAt 5 v body
broken-up v n ranks body bytes before none = broken_at 4 v (streets_alone_of n (ranks_alone ranks)) body bytes (omega arith) before
    (λ d s same rules e. none d.hierarchy.up s
    (subst (λ (x : List ℕ). AreUp (record { ranks = x; up = d.hierarchy.up; down = [] })) (sym (same 4 (omega arith) (omega arith))) (up_of d.hierarchy (rules.up (omega arith)))) e)

-- the rules of arcs down are those over the streets, the ranks and the arcs up
down_over : (n m : Network) (ranks : List ℕ) (up : List UpDown) (h : Parts) → streets_alone n ≡ streets_alone m → ranks ≡ h.ranks → up ≡ h.up → AreDown (graph_of m) h → AreDown (graph_of n) (record { ranks = ranks; up = up; down = h.down })
down_over n m ranks up h streets ranks_are up_are are =
    let graph : AreDown (graph_of n) h = subst (λ (x : Network). AreDown (graph_of x) h) (sym streets) are in
    let by_ranks : AreDown (graph_of n) (record { ranks = ranks; up = h.up; down = h.down }) =
    subst (λ (x : List ℕ). AreDown (graph_of n) (record { ranks = x; up = h.up; down = h.down })) (sym ranks_are) graph in
    subst (λ (x : List UpDown). AreDown (graph_of n) (record { ranks = ranks; up = x; down = h.down })) (sym up_are) by_ranks

pub broken-down : (v : Version) (n : Network) (ranks : List ℕ) (up : List UpDown) (body bytes : List ℕ) → Begins 5 v (streets_alone_of n (up_alone ranks up)) body bytes
    → HasNoneInFront (long_list up_down_form) (λ down. AreDown (graph_of n) (record { ranks = ranks; up = up; down = down })) bytes → IsBrokenAt 6 v body
broken-down v n ranks up body bytes before none = broken_at 5 v (streets_alone_of n (up_alone ranks up)) body bytes (omega arith) before
    (λ d s same rules e. none d.hierarchy.down s
    (down_over n d.network ranks up d.hierarchy (same 1 (omega arith) (omega arith)) (same 4 (omega arith) (omega arith)) (same 5 (omega arith) (omega arith)) (rules.down (omega arith))) e)

-- the rules of entries are those over the numbers of vertices and stops
entries_over : (c d : Compiled) (entries : List Bucket) → c.network.nodes ≡ d.network.nodes → length c.network.stops ≡ length d.network.stops
    → AreEntries d.network.nodes (length d.network.stops) entries → AreEntries c.network.nodes (length c.network.stops) entries
entries_over c d entries nodes stops are =
    subst (λ (k : ℕ). AreEntries k (length c.network.stops) entries) (sym nodes) (subst (λ (k : ℕ). AreEntries d.network.nodes k entries) (sym stops) are)

pub broken-to : (v : Version) (n : Network) (h : Parts) (body bytes : List ℕ) → Begins 6 v (streets_alone_of n h) body bytes
    → HasNoneInFront (long_list bucket_form) (AreEntries n.nodes (length n.stops)) bytes → IsBrokenAt 7 v body
broken-to v n h body bytes before none = broken_at 6 v (streets_alone_of n h) body bytes (omega arith) before
    (λ d s same rules e. none d.buckets.to s
    (entries_over (streets_alone_of n h) d d.buckets.to (nodes_are (streets_alone_of n h) d (same 1 (omega arith) (omega arith))) (many_are (streets_alone_of n h) d (same 2 (omega arith) (omega arith))) (rules.to (omega arith))) e)

pub broken-from : (v : Version) (n : Network) (h : Parts) (to : List Bucket) (body bytes : List ℕ) → Begins 7 v (parts n h to [] []) body bytes
    → HasNoneInFront (long_list bucket_form) (AreEntries n.nodes (length n.stops)) bytes → IsBrokenAt 8 v body
broken-from v n h to body bytes before none = broken_at 7 v (parts n h to [] []) body bytes (omega arith) before
    (λ d s same rules e. none d.buckets.from s
    (entries_over (parts n h to [] []) d d.buckets.from (nodes_are (parts n h to [] []) d (same 1 (omega arith) (omega arith))) (many_are (parts n h to [] []) d (same 2 (omega arith) (omega arith))) (rules.from (omega arith))) e)

pub broken-shortcuts : (v : Version) (n : Network) (h : Parts) (to from : List Bucket) (body bytes : List ℕ) → Begins 8 v (parts n h to from []) body bytes
    → HasNoneInFront (long_list shortcut_form) (AreShortcuts (length n.stops)) bytes → IsBrokenAt 9 v body
broken-shortcuts v n h to from body bytes before none = broken_at 8 v (parts n h to from []) body bytes (omega arith) before
    (λ d s same rules e. none d.shortcuts s
    (subst (λ (k : ℕ). AreShortcuts k d.shortcuts) (sym (many_are (parts n h to from []) d (same 2 (omega arith) (omega arith)))) (rules.shortcuts (omega arith))) e)

-- what a stop is answered by
pub stopped : (n : ℕ) (v : Version) (body : List ℕ) (e : ReadStop) (r : DecodeStop) → r ≡ stop_of n e → (e ≡ read.Broken → IsBrokenAt n v body) → IsBrokenIn v body r
stopped n v body read.Broken r is broken = subst (IsBrokenIn v body) (sym is) (broken refl)
stopped n v body read.NoMemory r is broken = subst (IsBrokenIn v body) (sym is) tt
