-- The rules of the sections of a network file.
--     HasBuffer version seconds  the buffer of a file of this version
--     AreStreets version n       the rules of section 1; those of the other sections follow, in their order
--     KeepsSections k version c  c keeps the rules of the first k sections
--     IsWritable version c       it keeps all of them, so it has a file of this version
use Rattle.std.specs.Prelude.{◌≡◌, ℕ, ◌<◌, ◌≤◌, ◌^◌, List, [], length, All}
use Rattle.move_model.specs.declared.network.Network.{Network}
use Rattle.move_model.specs.declared.journey.Shortcut.{Shortcut}
use Rattle.move_model.specs.Streets.{Streets}
use Rattle.move_model.specs.Network.{streets}
use Rattle.move_model.specs.Check.{KeepsRules}
use Rattle.walk_hierarchy.specs.Hierarchy.{Parts, AreRanks}
use Rattle.bucket_walks.specs.declared.bucket.Bucket.{Bucket}
use Rattle.bucket_walks.specs.Buckets.{AreBuckets}
use Rattle.network_rules.specs.Rules.{IsId, Differ, HaveFewCalls, RiseUp, FallDown, AreMade}
use Rattle.network_file.specs.Compiled.{AreTransfers}
use Rattle.network_file.specs.declared.compiled.Compiled.{Compiled}
use Rattle.network_codec.specs.declared.version.Version.{Version}
use Rattle.network_codec.specs.declared.version.Version.TheVariants as version

-- a file of version 1 stands for no seconds to board
abbrev pub HasBuffer : Version → ℕ → Type 0
HasBuffer version.One seconds = seconds ≡ 0
HasBuffer version.Two seconds = seconds ≤ 3600

abbrev pub streets_alone : Network → Network
streets_alone n = record { nodes = n.nodes; arcs = n.arcs; stops = []; trips = []; buffer = n.buffer }

abbrev pub stops_alone : Network → Network
stops_alone n = record { nodes = n.nodes; arcs = n.arcs; stops = n.stops; trips = []; buffer = n.buffer }

pub record AreStreets (version : Version) (n : Network) : Type 0 where
  pub buffer : HasBuffer version n.buffer
  pub few : length n.arcs ≤ 8000000
  pub keep : KeepsRules (streets_alone n)

pub record AreStops (n : Network) : Type 0 where
  pub few : length n.stops ≤ 200000
  pub named : All (λ stop. IsId stop.name) n.stops
  pub differ : Differ n.stops
  pub keep : KeepsRules (stops_alone n)

pub record AreTrips (n : Network) : Type 0 where
  pub few : length n.trips ≤ 2000000
  pub few_calls : HaveFewCalls n.trips
  pub named : All (λ trip. IsId trip.name) n.trips
  pub keep : KeepsRules n

-- each vertex has a rank of its own
pub record AreRanksOf (nodes : ℕ) (ranks : List ℕ) : Type 0 where
  pub one_each : length ranks ≡ nodes
  pub each_once : AreRanks ranks

abbrev pub up_alone : Parts → Parts
up_alone h = record { ranks = h.ranks; up = h.up; down = [] }

abbrev pub down_alone : Parts → Parts
down_alone h = record { ranks = h.ranks; up = []; down = h.down }

-- the number of arcs has eight bytes, and a middle four; what it is the middle of is a rule of the next section
pub record AreUp (h : Parts) : Type 0 where
  pub counted : length h.up < 2 ^ 64
  pub rise : RiseUp (up_alone h)
  pub middles : All (λ arc. arc.middle.0 < 2 ^ 32) h.up

-- with the rule on the middles of all arcs
pub record AreDown (g : Streets) (h : Parts) : Type 0 where
  pub counted : length h.down < 2 ^ 64
  pub fall : FallDown (down_alone h)
  pub middles : All (λ arc. arc.middle.0 < 2 ^ 32) h.down
  pub made : AreMade g h

pub record AreEntries (nodes stops : ℕ) (entries : List Bucket) : Type 0 where
  pub counted : length entries < 2 ^ 64
  pub buckets : AreBuckets nodes stops entries

pub record AreShortcuts (stops : ℕ) (list : List Shortcut) : Type 0 where
  pub counted : length list < 2 ^ 64
  pub transfers : AreTransfers stops list

abbrev pub graph_of : Network → Streets
graph_of n = streets n

pub record KeepsSections (k : ℕ) (version : Version) (c : Compiled) : Type 0 where
  pub streets : 1 ≤ k → AreStreets version c.network
  pub stops : 2 ≤ k → AreStops c.network
  pub trips : 3 ≤ k → AreTrips c.network
  pub ranks : 4 ≤ k → AreRanksOf c.network.nodes c.hierarchy.ranks
  pub up : 5 ≤ k → AreUp c.hierarchy
  pub down : 6 ≤ k → AreDown (graph_of c.network) c.hierarchy
  pub to : 7 ≤ k → AreEntries c.network.nodes (length c.network.stops) c.buckets.to
  pub from : 8 ≤ k → AreEntries c.network.nodes (length c.network.stops) c.buckets.from
  pub shortcuts : 9 ≤ k → AreShortcuts (length c.network.stops) c.shortcuts

abbrev pub IsWritable : Version → Compiled → Type 0
IsWritable version c = KeepsSections 9 version c
