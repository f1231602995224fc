-- A value with these parts is right.
use Rattle.std.proofs.Common.{◌≡◌, ◌<◌, ◌≤◌, ◌-◌, ◌^◌, ℕ, List, length, arith}
use Rattle.std.specs.Prelude.{All}
use Rattle.std.proofs.lemmas.List.Elements.{All-weaker}
use Rattle.move_model.specs.declared.network.Network.{Network}
use Rattle.move_model.specs.declared.network.Trip.{Trip}
use Rattle.move_model.specs.Network.{streets, IsNumbered}
use Rattle.move_model.specs.Check.{KeepsRules}
use Rattle.move_model.specs.Shortcut.{IsShortcutList}
use Rattle.walk_hierarchy.specs.Hierarchy.{IsHierarchy, IsOver, GivesDistances}
use Rattle.bucket_walks.specs.Buckets.{IsBuckets, AreBucketsOf}
use Rattle.network_file.specs.declared.compiled.Compiled.{Compiled}
use Rattle.network_file.specs.Compiled.{IsTimetableOf, IsRight}
use Rattle.network_compile.specs.Limits.{IsWithin}
use Rattle.network_compile.proofs.ListLemmas.{transfers}
use Rattle.network_compile.proofs.RowLemmas.{gives_first, gives_last}

numbered : (n : Network) → IsWithin n → IsNumbered n
numbered n within = record {
  trips = omega (arith, within.trips);
  calls = All-weaker (λ (trip : Trip). length trip.calls < 2 ^ 32 - 1) (λ (trip : Trip). length trip.calls ≤ 4294967296)
      (λ trip few. omega (arith, few)) n.trips within.calls;
}

pub is_right : (c : Compiled) → KeepsRules c.network → IsWithin c.network → IsTimetableOf c.network c.table → IsHierarchy c.hierarchy
    → IsOver (streets c.network) c.hierarchy → GivesDistances (streets c.network) c.hierarchy
    → IsBuckets c.buckets → AreBucketsOf c.hierarchy c.network.stops c.buckets
    → IsShortcutList c.network c.shortcuts → IsRight c
is_right c rules within table hierarchy over gives buckets are list = record {
  fits = record {
    rules = rules;
    numbered = numbered c.network within;
    table = table;
    hierarchy = hierarchy;
    over = over;
    buckets = buckets;
    same_nodes = are.nodes;
    same_stops = are.one_each;
    transfers = transfers c.network rules c.shortcuts list;
  };
  walks = gives;
  first = gives_first c.network rules c.hierarchy over gives c.buckets are;
  last = gives_last c.network rules c.hierarchy over gives c.buckets are;
  shortcuts = list;
}
