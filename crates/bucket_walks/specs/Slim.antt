-- Entries in half the room.
--     AreSmall list        the seconds of each entry need no more than 32 bits
--     slim_of entry        the stop and the seconds of an entry
use Rattle.std.specs.Prelude.{◌<◌, ◌^◌, List, All}
use Rattle.bucket_walks.specs.declared.bucket.Bucket.{Bucket}
use Rattle.bucket_walks.specs.declared.slim.Slim.{Slim}

abbrev pub AreSmall : List Bucket → Type 0
AreSmall list = All (λ entry. entry.seconds < 2 ^ 32) list

abbrev pub slim_of : Bucket → Slim
slim_of entry = record { stop = entry.stop; seconds = entry.seconds }
