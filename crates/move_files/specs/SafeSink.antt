-- What a sink in memory that never fails is seen as.
--     taken_bytes sink     the bytes that were taken so far
--     most_of sink         the most bytes that a write takes
--     wants_of sink        how often memory was wanting
use Rattle.std.specs.Prelude.{ℕ, List}
use Rattle.move_files.specs.declared.safe_sink.SafeSink.{SafeSink}

-- the bytes that were taken so far
abbrev pub taken_bytes : SafeSink → List ℕ
taken_bytes sink = sink.taken.items

-- the most bytes that a write takes
abbrev pub most_of : SafeSink → ℕ
most_of sink = sink.most

-- how often memory was wanting
abbrev pub wants_of : SafeSink → ℕ
wants_of sink = sink.wants
