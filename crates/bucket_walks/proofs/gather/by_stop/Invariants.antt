use Rattle.std.proofs.Common.{◌≡◌, ◌+◌, ◌↔◌, length}
use Rattle.std.specs.Prelude.{Contains}
use Rattle.bucket_walks.specs.declared.bucket.Bucket.{Bucket}
use Rattle.bucket_walks.specs.Gathered.{IsUnmarked, AreApart}
use Rattle.bucket_walks.proofs.EntryLemmas.{IsEntryBefore}
use Rattle.bucket_walks.proofs.gather.by_stop.Given as goal

abbrev pub invariant-loop-number : goal.invariant-loop-number
invariant-loop-number g l = record {
  entries : (entry : Bucket) → Contains l.list.items entry ↔ IsEntryBefore l.side l.hierarchy l.stops l.number entry;
  apart : AreApart l.list.items;
  none : IsUnmarked l.marks;
  places : length l.marks ≡ length l.hierarchy.ranks + 1;
  nodes : l.work.nodes ≡ l.initial.work.nodes;
}
