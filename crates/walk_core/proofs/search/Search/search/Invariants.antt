use Rattle.std.proofs.Common.{◌≡◌, vec_len}
use Rattle.walk_core.specs.Search.{AllLabels}
use Rattle.walk_core.proofs.search.Search.search.Given as goal

abbrev pub invariant-loop-i : goal.invariant-loop-i
invariant-loop-i l = record {
  many : vec_len l.self.labels ≡ vec_len l.fn.self.labels;
  labels : AllLabels l.out l.rank l.avoid l.from l.self.labels.items l.self.run;
}
