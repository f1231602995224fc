-- What a sink in memory that can be made to fail is seen as.
--     taken_bytes sink     the bytes that were taken so far
--     most_of sink         the most bytes that a write takes
--     faults_of sink       how often a write has failed
--     wants_of sink        how often memory was wanting
--     writes_left sink     the next failing write, counted from 1; 0 where none is to fail
use Rattle.std.specs.Prelude.{ℕ, List}
use Rattle.move_files.specs.SafeSink as safe
use Rattle.move_files.specs.declared.mem_sink.MemSink.{MemSink}

-- the bytes that were taken so far
abbrev pub taken_bytes : MemSink → List ℕ
taken_bytes sink = safe.taken_bytes sink.sink

-- the most bytes that a write takes
abbrev pub most_of : MemSink → ℕ
most_of sink = safe.most_of sink.sink

-- how often a write has failed
abbrev pub faults_of : MemSink → ℕ
faults_of sink = sink.faults

-- how often memory was wanting
abbrev pub wants_of : MemSink → ℕ
wants_of sink = safe.wants_of sink.sink

-- the next failing write, counted from 1; 0 where none is to fail
abbrev pub writes_left : MemSink → ℕ
writes_left sink = sink.left
