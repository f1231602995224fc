-- From the rules of sections to those of the parts of a value.
use Rattle.std.proofs.Common.{◌≡◌, ◌-◌, ◌^◌, ◌<◌, length, All, refl, sym, subst, arith}
use Rattle.move_model.specs.declared.network.Network.{Network}
use Rattle.move_model.specs.Network.{streets, IsNumbered}
use Rattle.walk_hierarchy.specs.Hierarchy.{Parts, IsHierarchy, IsOver}
use Rattle.bucket_walks.specs.Buckets.{Parts as BucketParts, IsBuckets}
use Rattle.route_split.specs.Table.{Table}
use Rattle.network_file.specs.declared.compiled.Compiled.{Compiled}
use Rattle.network_file.specs.Compiled.{FitTogether, IsTimetableOf}
use Rattle.network_codec.specs.declared.version.Version.{Version}
use Rattle.network_codec.specs.Rules.{AreTrips, IsWritable}
use Rattle.network_codec.proofs.WriteLemmas.{few_each_at}

pub calls_few : (n : Network) → AreTrips n → All (λ trip. length trip.calls < 2 ^ 32 - 1) n.trips
calls_few n are = λ k d lt. omega (arith, few_each_at n.trips 20000000 are.few_calls k d lt)

pub hierarchy_of : (v : Version) (c : Compiled) → IsWritable v c → IsHierarchy c.hierarchy
hierarchy_of v c rules =
    let streets = rules.streets (omega arith) in
    let ranks = rules.ranks (omega arith) in
    let up = rules.up (omega arith) in
    let down = rules.down (omega arith) in
    record {
      has_node = omega (arith, streets.keep.has_nodes.0, ranks.one_each);
      nodes = omega (arith, streets.keep.has_nodes.1, ranks.one_each);
      ranks = ranks.each_once;
      up = λ k d lt. let a = up.rise.each k d lt in record {
        from = record { from_one = a.from.from_one; to_nodes = a.from.to_nodes };
        to = record { from_one = a.to.from_one; to_nodes = a.to.to_nodes };
        rises = a.rises;
        short = a.short;
      };
      up_in_order = up.rise.in_order;
      up_made = down.made.up;
      down = λ k d lt. let a = down.fall.each k d lt in record {
        from = record { from_one = a.from.from_one; to_nodes = a.from.to_nodes };
        to = record { from_one = a.to.from_one; to_nodes = a.to.to_nodes };
        falls = a.falls;
        short = a.short;
      };
      down_in_order = down.fall.in_order;
      down_made = down.made.down;
    }

pub over_streets : (v : Version) (c : Compiled) → IsWritable v c → IsOver (streets c.network) c.hierarchy
over_streets v c rules = record {
  nodes = sym (rules.ranks (omega arith)).one_each;
  up = (rules.down (omega arith)).made.up_streets;
  down = (rules.down (omega arith)).made.down_streets;
}

pub buckets_of : (v : Version) (c : Compiled) → IsWritable v c
    → IsBuckets (record { nodes = c.network.nodes; stops = length c.network.stops; to = c.buckets.to; from = c.buckets.from })
buckets_of v c rules = record {
  few_nodes = (rules.streets (omega arith)).keep.has_nodes.1;
  few_stops = (rules.stops (omega arith)).few;
  to = (rules.to (omega arith)).buckets;
  from = (rules.from (omega arith)).buckets;
}

numbered : (n : Network) → AreTrips n → IsNumbered n
numbered n are = record { trips = omega (arith, are.few); calls = λ k d lt. omega (arith, calls_few n are k d lt) }

-- the parts that were made belong together
pub fits : (v : Version) (s : Compiled) → IsWritable v s → (table : Table) (h : Parts) (b : BucketParts) → IsTimetableOf s.network table → h ≡ s.hierarchy
    → b ≡ record { nodes = s.network.nodes; stops = length s.network.stops; to = s.buckets.to; from = s.buckets.from }
    → FitTogether (record { network = s.network; table = table; hierarchy = h; buckets = b; shortcuts = s.shortcuts })
fits v s rules table h b routes h_is b_is =
    let buckets : BucketParts = record { nodes = s.network.nodes; stops = length s.network.stops; to = s.buckets.to; from = s.buckets.from } in
    let made : FitTogether (record { network = s.network; table = table; hierarchy = s.hierarchy; buckets = buckets; shortcuts = s.shortcuts }) = record {
      rules = (rules.trips (omega arith)).keep;
      numbered = numbered s.network (rules.trips (omega arith));
      table = routes;
      hierarchy = hierarchy_of v s rules;
      over = over_streets v s rules;
      buckets = buckets_of v s rules;
      same_nodes = sym (rules.ranks (omega arith)).one_each;
      same_stops = refl;
      transfers = (rules.shortcuts (omega arith)).transfers;
    } in
    let with_hierarchy : FitTogether (record { network = s.network; table = table; hierarchy = h; buckets = buckets; shortcuts = s.shortcuts }) =
    subst (λ (x : Parts). FitTogether (record { network = s.network; table = table; hierarchy = x; buckets = buckets; shortcuts = s.shortcuts })) (sym h_is) made in
    subst (λ (x : BucketParts). FitTogether (record { network = s.network; table = table; hierarchy = h; buckets = x; shortcuts = s.shortcuts })) (sym b_is) with_hierarchy
