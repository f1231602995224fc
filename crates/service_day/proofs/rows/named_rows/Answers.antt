use Rattle.std.proofs.Common.{◌≡◌, ◌-◌, ◌≤◌, List, length, take, drop, nat_lt, true, false, rules, sym}
use Rattle.std.specs.Prelude.{nat_le}
use Rattle.std.specs.List.Sorted.{IsPartitionPoint, IsPartitionedBy}
use Rattle.std.proofs.lemmas.List.{take_rest}
use Rattle.std.proofs.lemmas.List.Sorted.{IsPartitionPoint-from_clause}
use Rattle.gtfs_feed.specs.declared.feed.CopyRow.{CopyRow}
use Rattle.service_day.proofs.RowLemmas.{rows_of-part, parted_below, parted_upto}
use Rattle.service_day.proofs.rows.named_rows.Goals as goal

pub returns : goal.returns
returns c =
    let rows = c.args.rows.now in
    let place = c.args.place in
    let first = c.partition_point-first.result in
    let count = c.partition_point-count.result in
    let rest : List CopyRow = take (length rows - first) (drop first rows) in
    let whole : rest ≡ drop first rows = take_rest rows first in
    let head : IsPartitionPoint (λ (row : CopyRow). nat_lt row.trip place ≡ true) (λ (row : CopyRow). nat_lt row.trip place ≡ false) rows first =
    IsPartitionPoint-from_clause (λ (row : CopyRow). nat_lt row.trip place) rows first c.partition_point-first.ensures.partitioned (parted_below rows place c.requires) (λ a r q k. search rules) in
    let in_rest : IsPartitionedBy (λ (row : CopyRow). nat_le row.trip place) rest = rw whole (parted_upto rows place first c.requires) in
    let tail : IsPartitionPoint (λ (row : CopyRow). nat_le row.trip place ≡ true) (λ (row : CopyRow). nat_le row.trip place ≡ false) rest count =
    IsPartitionPoint-from_clause (λ (row : CopyRow). nat_le row.trip place) rest count c.partition_point-count.ensures.partitioned in_rest (λ a r q k. search rules) in
    let few : count ≤ length rest = c.partition_point-count.ensures.bound in
    rw whole (sym (rows_of-part rows place first count (rw whole at few) head (rw whole at tail)))
