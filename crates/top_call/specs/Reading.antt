-- What the reading of files, and the sending to a sink, leaves of the outside.
--     OnlyReads files old new     contents stay, no count falls, and no write failed
--     NeverFall sink old new      no count of a sink falls
--     MissedAt files name old new the name was not found
--     FailedAt files name old new a read of the name failed
use Rattle.std.specs.Prelude.{◌≡◌, ◌≤◌, ℕ, List}
use Rattle.move_files.specs.Outside.{NeverFalls, Rose}
use Rattle.move_files.specs.declared.outside.Files.{Ghosts}
use Rattle.move_files.specs.declared.outside.Sink.{Ghosts as SinkGhosts}

pub record OnlyReads {F : Type 0} (files : Ghosts F) (old new : F) : Type 0 where
  pub contents : files.holds new ≡ files.holds old
  pub read_faults : NeverFalls (files.read_faults old) (files.read_faults new)
  pub misses : NeverFalls (files.misses old) (files.misses new)
  pub write_faults : files.write_faults new ≡ files.write_faults old

pub record NeverFall {S : Type 0} (sink : SinkGhosts S) (old new : S) : Type 0 where
  pub faults : sink.faults old ≤ sink.faults new
  pub wants : sink.wants old ≤ sink.wants new

abbrev pub MissedAt : {F : Type 0} → Ghosts F → List ℕ → F → F → Type 0
MissedAt files name old new = Rose (files.misses old name) (files.misses new name)

abbrev pub FailedAt : {F : Type 0} → Ghosts F → List ℕ → F → F → Type 0
FailedAt files name old new = Rose (files.read_faults old name) (files.read_faults new name)
