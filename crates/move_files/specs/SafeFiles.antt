-- What files in memory that never fail are seen as.
--     held_bytes files name     the bytes under a name, or None where the name is not held
--     most_of files             the most bytes that a read gives
--     misses_of files           how often a name that was read was not held
use Rattle.std.specs.Prelude.{ℕ, List, Option}
use Rattle.move_files.specs.Held.{held_in}
use Rattle.move_files.specs.declared.safe_files.SafeFiles.{SafeFiles}

-- the bytes under a name, or None where the name is not held
abbrev pub held_bytes : SafeFiles → List ℕ → Option (List ℕ)
held_bytes files name = held_in files.held name

-- the most bytes that a read gives
abbrev pub most_of : SafeFiles → ℕ
most_of files = files.most

-- how often a name that was read was not held
abbrev pub misses_of : SafeFiles → ℕ
misses_of files = files.misses
