-- Values by the parts that a file tells.
--     parts n h to from list     a value with this network, hierarchy, entries to stops and from stops, and walks between stops
--     HaveSameParts c d          two values have the same network, hierarchy, entries and walks
use Rattle.std.specs.Prelude.{◌≡◌, List, []}
use Rattle.move_model.specs.declared.network.Network.{Network}
use Rattle.move_model.specs.declared.journey.Shortcut.{Shortcut}
use Rattle.walk_hierarchy.specs.Hierarchy.{Parts}
use Rattle.bucket_walks.specs.declared.bucket.Bucket.{Bucket}
use Rattle.network_file.specs.declared.compiled.Compiled.{Compiled}

-- a file tells nothing of the routes, nor of the numbers of vertices and stops of the buckets
abbrev pub parts : Network → Parts → List Bucket → List Bucket → List Shortcut → Compiled
parts n h to from list = record {
  network = n;
  table = record { stops = 0; buffer = 0; routes = [] };
  hierarchy = h;
  buckets = record { nodes = 0; stops = 0; to = to; from = from };
  shortcuts = list;
}

-- the value of a network alone, and of a network and a hierarchy
abbrev pub network_alone : Network → Compiled
network_alone n = parts n (record { ranks = []; up = []; down = [] }) [] [] []

abbrev pub streets_alone_of : Network → Parts → Compiled
streets_alone_of n h = parts n h [] [] []

pub record HaveSameParts (c d : Compiled) : Type 0 where
  pub network : c.network ≡ d.network
  pub hierarchy : c.hierarchy ≡ d.hierarchy
  pub to : c.buckets.to ≡ d.buckets.to
  pub from : c.buckets.from ≡ d.buckets.from
  pub shortcuts : c.shortcuts ≡ d.shortcuts
