use Rattle.std.proofs.Common.{take}
use Rattle.bucket_walks.specs.Gathered.{AreApart}
use Rattle.bucket_walks.proofs.AddLemmas.{AreKept}
use Rattle.bucket_walks.proofs.gather.add_entries.Given as goal

abbrev pub invariant-loop-there : goal.invariant-loop-there
invariant-loop-there l = record {
  kept : AreKept l.stop (take l.there-index l.settled) l.bypasses.arcs.items l.marks l.initial.list.items l.list.items;
  apart : AreApart l.list.items;
}
