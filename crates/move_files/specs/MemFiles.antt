-- What files in memory that can be made to fail are seen as.
--     held_bytes files name         the bytes under a name, or None where the name is not held
--     most_of files                 the most bytes that a read gives
--     misses_of files               how often a name that was read was not held
--     read_faults_of files name     how often a read of the name has failed
--     write_faults_of files         how often a begin or an append has failed
--     reads_left files name         the next failing read of the name, counted from 1; 0 where none is to fail
--     appends_left, begins_left     the same for its appends and its begins
use Rattle.std.specs.Prelude.{ℕ, List, Option}
use Rattle.move_files.specs.Plans.{calls_left, faults_in}
use Rattle.move_files.specs.SafeFiles as safe
use Rattle.move_files.specs.declared.mem_files.MemFiles.{MemFiles}

-- the bytes under a name, or None where the name is not held
abbrev pub held_bytes : MemFiles → List ℕ → Option (List ℕ)
held_bytes files = safe.held_bytes files.files

-- the most bytes that a read gives
abbrev pub most_of : MemFiles → ℕ
most_of files = safe.most_of files.files

-- how often a name that was read was not held
abbrev pub misses_of : MemFiles → ℕ
misses_of files = safe.misses_of files.files

-- how often a read of the name has failed
abbrev pub read_faults_of : MemFiles → List ℕ → ℕ
read_faults_of files = faults_in files.reads

-- how often a begin or an append has failed
abbrev pub write_faults_of : MemFiles → ℕ
write_faults_of files = files.write_faults

-- the next failing read of the name, counted from 1; 0 where none is to fail
abbrev pub reads_left : MemFiles → List ℕ → ℕ
reads_left files = calls_left files.reads

-- the next failing append to the name, counted from 1; 0 where none is to fail
abbrev pub appends_left : MemFiles → List ℕ → ℕ
appends_left files = calls_left files.appends

-- the next failing begin of the name, counted from 1; 0 where none is to fail
abbrev pub begins_left : MemFiles → List ℕ → ℕ
begins_left files = calls_left files.begins
