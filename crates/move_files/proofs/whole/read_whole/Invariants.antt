use Rattle.std.proofs.Common.{◌≡◌, ◌+◌, ◌-◌, vec_len}
use Rattle.move_files.specs.Outside.{NeverFalls}
use Rattle.move_files.proofs.Fronts.{IsFront}
use Rattle.move_files.proofs.whole.read_whole.Given as goal

abbrev pub invariant-loop-piece : goal.invariant-loop-piece
invariant-loop-piece g l = record {
  contents : g.F.Files.holds l.files ≡ g.F.Files.holds l.fn.files;
  front : g.F.Files.tells → IsFront (g.F.Files.holds l.fn.files l.name) l.bytes.items;
  faults : NeverFalls (g.F.Files.read_faults l.fn.files) (g.F.Files.read_faults l.files);
  misses : NeverFalls (g.F.Files.misses l.fn.files) (g.F.Files.misses l.files);
  writes : g.F.Files.write_faults l.files ≡ g.F.Files.write_faults l.fn.files;
}

abbrev pub decreases-loop-piece : goal.decreases-loop-piece
decreases-loop-piece g l = l.limit + 1 - vec_len l.bytes
