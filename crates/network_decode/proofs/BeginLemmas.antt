-- One more section in front of a body.
use Rattle.std.proofs.Common.{◌≡◌, ℕ, List, [], length, refl, sym, subst, arith}
use Rattle.std.specs.List.{flat_map}
use Rattle.move_model.specs.declared.network.Network.{Network}
use Rattle.move_model.specs.declared.network.Stop.{Stop}
use Rattle.move_model.specs.declared.network.Trip.{Trip}
use Rattle.move_model.specs.declared.journey.Shortcut.{Shortcut}
use Rattle.walk_hierarchy.specs.declared.arcs.UpDown.{UpDown}
use Rattle.walk_hierarchy.specs.Hierarchy.{Parts}
use Rattle.bucket_walks.specs.declared.bucket.Bucket.{Bucket}
use Rattle.network_bytes.specs.Bytes.{word, short_list, long_list}
use Rattle.network_bytes.specs.Forms.{stop_form, trip_form, up_down_form, bucket_form, shortcut_form}
use Rattle.network_codec.specs.declared.version.Version.{Version}
use Rattle.network_codec.specs.Form.{streets_form}
use Rattle.network_codec.specs.Rules.{graph_of, AreStreets, AreStops, AreTrips, AreRanksOf, AreUp, AreDown, AreEntries, AreShortcuts}
use Rattle.network_codec.specs.File.{Begins}
use Rattle.network_sections.specs.Front.{IsInFront}
use Rattle.network_sections.specs.Network.{with_stops, with_trips}
use Rattle.network_decode.specs.Value.{parts, network_alone, streets_alone_of}
use Rattle.network_decode.proofs.ChainLemmas.{longer}

abbrev pub ranks_alone : List ℕ → Parts
ranks_alone ranks = record { ranks = ranks; up = []; down = [] }

abbrev pub up_alone : List ℕ → List UpDown → Parts
up_alone ranks up = record { ranks = ranks; up = up; down = [] }

-- nothing was read
pub begins : (v : Version) (n : Network) (body : List ℕ) → Begins 0 v (network_alone n) body body
begins v n body = record {
  parts = refl;
  rules = record {
    streets = λ le. absurd (omega arith);
    stops = λ le. absurd (omega arith);
    trips = λ le. absurd (omega arith);
    ranks = λ le. absurd (omega arith);
    up = λ le. absurd (omega arith);
    down = λ le. absurd (omega arith);
    to = λ le. absurd (omega arith);
    from = λ le. absurd (omega arith);
    shortcuts = λ le. absurd (omega arith);
  };
}

pub begins-streets : (v : Version) (n : Network) (body bytes rest : List ℕ) → Begins 0 v (network_alone n) body bytes → IsInFront (streets_form v) (AreStreets v) bytes n rest
    → Begins 1 v (network_alone n) body rest
begins-streets v n body bytes rest before front = longer 0 v (network_alone n) (network_alone n) body bytes rest (omega arith) before refl front.0 (record {
  streets = λ _. front.1;
  stops = λ le. absurd (omega arith);
  trips = λ le. absurd (omega arith);
  ranks = λ le. absurd (omega arith);
  up = λ le. absurd (omega arith);
  down = λ le. absurd (omega arith);
  to = λ le. absurd (omega arith);
  from = λ le. absurd (omega arith);
  shortcuts = λ le. absurd (omega arith);
})

pub begins-stops : (v : Version) (n : Network) (stops : List Stop) (body bytes rest : List ℕ) → Begins 1 v (network_alone n) body bytes → IsInFront (short_list stop_form) (λ stops. AreStops (with_stops n stops)) bytes stops rest
    → Begins 2 v (network_alone (with_stops n stops)) body rest
begins-stops v n stops body bytes rest before front = longer 1 v (network_alone n) (network_alone (with_stops n stops)) body bytes rest (omega arith) before refl front.0 (record {
  streets = λ _. let old = before.rules.streets (omega arith) in record { buffer = old.buffer; few = old.few; keep = old.keep };
  stops = λ _. front.1;
  trips = λ le. absurd (omega arith);
  ranks = λ le. absurd (omega arith);
  up = λ le. absurd (omega arith);
  down = λ le. absurd (omega arith);
  to = λ le. absurd (omega arith);
  from = λ le. absurd (omega arith);
  shortcuts = λ le. absurd (omega arith);
})

pub begins-trips : (v : Version) (n : Network) (trips : List Trip) (body bytes rest : List ℕ) → Begins 2 v (network_alone n) body bytes → IsInFront (short_list trip_form) (λ trips. AreTrips (with_trips n trips)) bytes trips rest
    → Begins 3 v (network_alone (with_trips n trips)) body rest
begins-trips v n trips body bytes rest before front = longer 2 v (network_alone n) (network_alone (with_trips n trips)) body bytes rest (omega arith) before refl front.0 (record {
  streets = λ _. let old = before.rules.streets (omega arith) in record { buffer = old.buffer; few = old.few; keep = old.keep };
  stops = λ _. let old = before.rules.stops (omega arith) in record { few = old.few; named = old.named; differ = old.differ; keep = old.keep };
  trips = λ _. front.1;
  ranks = λ le. absurd (omega arith);
  up = λ le. absurd (omega arith);
  down = λ le. absurd (omega arith);
  to = λ le. absurd (omega arith);
  from = λ le. absurd (omega arith);
  shortcuts = λ le. absurd (omega arith);
})

pub begins-ranks : (v : Version) (n : Network) (ranks : List ℕ) (body bytes rest : List ℕ) → Begins 3 v (network_alone n) body bytes → IsInFront (flat_map word) (AreRanksOf n.nodes) bytes ranks rest
    → Begins 4 v (streets_alone_of n (ranks_alone ranks)) body rest
begins-ranks v n ranks body bytes rest before front = longer 3 v (network_alone n) (streets_alone_of n (ranks_alone ranks)) body bytes rest (omega arith) before refl front.0 (record {
  streets = λ _. before.rules.streets (omega arith);
  stops = λ _. before.rules.stops (omega arith);
  trips = λ _. before.rules.trips (omega arith);
  ranks = λ _. front.1;
  up = λ le. absurd (omega arith);
  down = λ le. absurd (omega arith);
  to = λ le. absurd (omega arith);
  from = λ le. absurd (omega arith);
  shortcuts = λ le. absurd (omega arith);
})

pub begins-up : (v : Version) (n : Network) (ranks : List ℕ) (up : List UpDown) (body bytes rest : List ℕ) → Begins 4 v (streets_alone_of n (ranks_alone ranks)) body bytes → IsInFront (long_list up_down_form) (λ up. AreUp (record { ranks = ranks; up = up; down = [] })) bytes up rest
    → Begins 5 v (streets_alone_of n (up_alone ranks up)) body rest
begins-up v n ranks up body bytes rest before front = longer 4 v (streets_alone_of n (ranks_alone ranks)) (streets_alone_of n (up_alone ranks up)) body bytes rest (omega arith) before refl front.0 (record {
  streets = λ _. before.rules.streets (omega arith);
  stops = λ _. before.rules.stops (omega arith);
  trips = λ _. before.rules.trips (omega arith);
  ranks = λ _. before.rules.ranks (omega arith);
  up = λ _. front.1;
  down = λ le. absurd (omega arith);
  to = λ le. absurd (omega arith);
  from = λ le. absurd (omega arith);
  shortcuts = λ le. absurd (omega arith);
})

pub begins-down : (v : Version) (n : Network) (ranks : List ℕ) (up down : List UpDown) (body bytes rest : List ℕ) → Begins 5 v (streets_alone_of n (up_alone ranks up)) body bytes → IsInFront (long_list up_down_form) (λ down. AreDown (graph_of n) (record { ranks = ranks; up = up; down = down })) bytes down rest
    → Begins 6 v (streets_alone_of n (record { ranks = ranks; up = up; down = down })) body rest
begins-down v n ranks up down body bytes rest before front = longer 5 v (streets_alone_of n (up_alone ranks up)) (streets_alone_of n (record { ranks = ranks; up = up; down = down })) body bytes rest (omega arith) before refl front.0 (record {
  streets = λ _. before.rules.streets (omega arith);
  stops = λ _. before.rules.stops (omega arith);
  trips = λ _. before.rules.trips (omega arith);
  ranks = λ _. before.rules.ranks (omega arith);
  up = λ _. let old = before.rules.up (omega arith) in record { counted = old.counted; rise = old.rise; middles = old.middles };
  down = λ _. front.1;
  to = λ le. absurd (omega arith);
  from = λ le. absurd (omega arith);
  shortcuts = λ le. absurd (omega arith);
})

pub begins-to : (v : Version) (n : Network) (h : Parts) (to : List Bucket) (body bytes rest : List ℕ) → Begins 6 v (streets_alone_of n h) body bytes → IsInFront (long_list bucket_form) (AreEntries n.nodes (length n.stops)) bytes to rest
    → Begins 7 v (parts n h to [] []) body rest
begins-to v n h to body bytes rest before front = longer 6 v (streets_alone_of n h) (parts n h to [] []) body bytes rest (omega arith) before refl front.0 (record {
  streets = λ _. before.rules.streets (omega arith);
  stops = λ _. before.rules.stops (omega arith);
  trips = λ _. before.rules.trips (omega arith);
  ranks = λ _. before.rules.ranks (omega arith);
  up = λ _. before.rules.up (omega arith);
  down = λ _. before.rules.down (omega arith);
  to = λ _. front.1;
  from = λ le. absurd (omega arith);
  shortcuts = λ le. absurd (omega arith);
})

pub begins-from : (v : Version) (n : Network) (h : Parts) (to from : List Bucket) (body bytes rest : List ℕ) → Begins 7 v (parts n h to [] []) body bytes → IsInFront (long_list bucket_form) (AreEntries n.nodes (length n.stops)) bytes from rest
    → Begins 8 v (parts n h to from []) body rest
begins-from v n h to from body bytes rest before front = longer 7 v (parts n h to [] []) (parts n h to from []) body bytes rest (omega arith) before refl front.0 (record {
  streets = λ _. before.rules.streets (omega arith);
  stops = λ _. before.rules.stops (omega arith);
  trips = λ _. before.rules.trips (omega arith);
  ranks = λ _. before.rules.ranks (omega arith);
  up = λ _. before.rules.up (omega arith);
  down = λ _. before.rules.down (omega arith);
  to = λ _. before.rules.to (omega arith);
  from = λ _. front.1;
  shortcuts = λ le. absurd (omega arith);
})

pub begins-shortcuts : (v : Version) (n : Network) (h : Parts) (to from : List Bucket) (list : List Shortcut) (body bytes rest : List ℕ) → Begins 8 v (parts n h to from []) body bytes → IsInFront (long_list shortcut_form) (AreShortcuts (length n.stops)) bytes list rest
    → Begins 9 v (parts n h to from list) body rest
begins-shortcuts v n h to from list body bytes rest before front = longer 8 v (parts n h to from []) (parts n h to from list) body bytes rest (omega arith) before refl front.0 (record {
  streets = λ _. before.rules.streets (omega arith);
  stops = λ _. before.rules.stops (omega arith);
  trips = λ _. before.rules.trips (omega arith);
  ranks = λ _. before.rules.ranks (omega arith);
  up = λ _. before.rules.up (omega arith);
  down = λ _. before.rules.down (omega arith);
  to = λ _. before.rules.to (omega arith);
  from = λ _. before.rules.from (omega arith);
  shortcuts = λ _. front.1;
})

-- a network that was given stops, and one that was given trips
pub given-stops : (v : Version) (n m : Network) (body bytes rest : List ℕ) → Begins 1 v (network_alone n) body bytes → IsInFront (short_list stop_form) (λ stops. AreStops (with_stops n stops)) bytes m.stops rest
    → m ≡ with_stops n m.stops → Begins 2 v (network_alone m) body rest
given-stops v n m body bytes rest before front is =
    subst (λ (x : Network). Begins 2 v (network_alone x) body rest) (sym is) (begins-stops v n m.stops body bytes rest before front)

pub given-trips : (v : Version) (n m : Network) (body bytes rest : List ℕ) → Begins 2 v (network_alone n) body bytes → IsInFront (short_list trip_form) (λ trips. AreTrips (with_trips n trips)) bytes m.trips rest
    → m ≡ with_trips n m.trips → Begins 3 v (network_alone m) body rest
given-trips v n m body bytes rest before front is =
    subst (λ (x : Network). Begins 3 v (network_alone x) body rest) (sym is) (begins-trips v n m.trips body bytes rest before front)
