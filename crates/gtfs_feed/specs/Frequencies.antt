-- The copies of a trip that a row of frequencies.txt gives (GTFS Schedule Reference).
--     latest_start row               the second at which the latest copy leaves, where there is a copy
--     last_copy_second row calls     the last second of the latest copy of a trip with these calls; None without a copy or a call
use Rattle.std.specs.Prelude.{ℕ, ◌+◌, ◌-◌, ◌*◌, ◌/◌, List, length, slice_get, Option, Some, None, nat_lt, if◌then◌else◌}
use Rattle.move_model.specs.declared.network.Call.{Call}
use Rattle.gtfs_feed.specs.declared.feed.CopyRow.{CopyRow}

-- copies leave at start, and then every headway seconds before end
abbrev pub latest_start : CopyRow → ℕ
latest_start row = row.start + (row.end - 1 - row.start) / row.headway * row.headway

abbrev pub copy_second : CopyRow → Option Call → Option Call → Option ℕ
copy_second row None last = None
copy_second row (Some first) None = None
copy_second row (Some first) (Some last) = if nat_lt row.start row.end then Some (latest_start row + (last.dep - first.dep)) else None

abbrev pub last_copy_second : CopyRow → List Call → Option ℕ
last_copy_second row calls = copy_second row (slice_get calls 0) (slice_get calls (length calls - 1))
