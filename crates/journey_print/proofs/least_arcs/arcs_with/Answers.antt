use Rattle.std.proofs.Common.{◌≡◌, ◌-◌, List, length, take, drop, nat_lt, true, false, rules}
use Rattle.std.specs.Prelude.{nat_le}
use Rattle.std.specs.List.Sorted.{IsPartitionPoint, IsPartitionedBy}
use Rattle.std.proofs.lemmas.List.{take_rest}
use Rattle.std.proofs.lemmas.List.Sorted.{IsPartitionPoint-from_clause}
use Rattle.move_model.specs.declared.network.Arc.{Arc}
use Rattle.journey_print.specs.Arcs.{key_of}
use Rattle.journey_print.proofs.IndexLemmas.{Contains-of_part, Contains-part, parted_below, parted_upto}
use Rattle.journey_print.proofs.least_arcs.arcs_with.Goals as goal

pub returns-clause-some : goal.returns-clause-some
returns-clause-some c = λ arc h.
    let arcs = c.args.arcs.now in
    let first = c.partition_point-first.result in
    let whole : take (length arcs - first) (drop first arcs) ≡ drop first arcs = take_rest arcs first in
    Contains-of_part arcs first c.partition_point-count.result arc (rw whole at h)

pub returns-clause-all : goal.returns-clause-all
returns-clause-all c = λ arc is h.
    let arcs = c.args.arcs.now in
    let wanted = c.args.wanted in
    let first = c.partition_point-first.result in
    let count = c.partition_point-count.result in
    let rest : List Arc = take (length arcs - first) (drop first arcs) in
    let whole : rest ≡ drop first arcs = take_rest arcs first in
    let below : IsPartitionPoint (λ (arc : Arc). nat_lt (key_of arc) wanted ≡ true) (λ (arc : Arc). nat_lt (key_of arc) wanted ≡ false) arcs first =
    IsPartitionPoint-from_clause (λ (arc : Arc). nat_lt (key_of arc) wanted) arcs first c.partition_point-first.ensures.partitioned (parted_below arcs wanted c.requires) (λ a r q k. search rules) in
    let in_rest : IsPartitionedBy (λ (arc : Arc). nat_le (key_of arc) wanted) rest = rw whole (parted_upto arcs wanted first c.requires) in
    let upto : IsPartitionPoint (λ (arc : Arc). nat_le (key_of arc) wanted ≡ true) (λ (arc : Arc). nat_le (key_of arc) wanted ≡ false) rest count =
    IsPartitionPoint-from_clause (λ (arc : Arc). nat_le (key_of arc) wanted) rest count c.partition_point-count.ensures.partitioned in_rest (λ a r q k. search rules) in
    rw whole (Contains-part arcs wanted first count below (rw whole at upto) arc is h)
