-- The entries of a network file as bytes.
--     arc_form, stop_form, call_form, trip_form             the bytes of one entry
--     up_down_form, bucket_form, shortcut_form
--     arc_at, stop_at, call_at, trip_at                     the entry at the front of bytes, and the bytes behind it
--     up_down_at, bucket_at, shortcut_at
--     flags board alight     1 where passengers may board, and 2 more where they may alight
--     flagged byte           whether they may board, and alight, by the flags
use Rattle.std.specs.Prelude.{◌≡◌, ℕ, zero, suc, ◌+◌, ◌<◌, ◌^◌, ◌++◌, Bool, true, false, List, [], ◌∷◌, length, Option, Some, None, nat_lt, if◌then◌else◌}
use Rattle.move_model.specs.declared.network.Arc.{Arc}
use Rattle.move_model.specs.declared.network.Stop.{Stop}
use Rattle.move_model.specs.declared.network.Call.{Call}
use Rattle.move_model.specs.declared.network.Trip.{Trip}
use Rattle.move_model.specs.declared.journey.Shortcut.{Shortcut}
use Rattle.walk_hierarchy.specs.declared.arcs.UpDown.{UpDown}
use Rattle.bucket_walks.specs.declared.bucket.Bucket.{Bucket}
use Rattle.network_bytes.specs.Bytes.{word, long, name_form, short_list}
use Rattle.network_bytes.specs.Front.{◌>>=◌, word_at, long_at, byte_at, name_at, both, made, counted}

abbrev pub arc_form : Arc → List ℕ
arc_form arc = word arc.from.0 ++ (word arc.to.0 ++ word arc.seconds)

unfoldable pub arc_at : List ℕ → Option (Arc × List ℕ)
arc_at = made (λ (x : ℕ × (ℕ × ℕ)). record { from = record { 0 = x.0 }; to = record { 0 = x.1.0 }; seconds = x.1.1 }) (both word_at (both word_at word_at))

abbrev pub stop_form : Stop → List ℕ
stop_form stop = word stop.node.0 ++ name_form stop.name

unfoldable pub stop_at : List ℕ → Option (Stop × List ℕ)
stop_at = made (λ (x : ℕ × List ℕ). record { node = record { 0 = x.0 }; name = x.1 }) (both word_at name_at)

abbrev pub one_if : ℕ → Bool → ℕ
one_if n true = n
one_if n false = 0

abbrev pub flags : Bool → Bool → ℕ
flags board alight = one_if 1 board + one_if 2 alight

abbrev pub call_form : Call → List ℕ
call_form call = word call.stop.0 ++ (word call.arr ++ (word call.dep ++ flags call.board call.alight ∷ []))

abbrev pub flagged : ℕ → Option (Bool × Bool)
flagged zero = Some (false, false)
flagged (suc zero) = Some (true, false)
flagged (suc (suc zero)) = Some (false, true)
flagged (suc (suc (suc zero))) = Some (true, true)
flagged (suc (suc (suc (suc n)))) = None

abbrev pub flags_at : List ℕ → Option ((Bool × Bool) × List ℕ)
flags_at bytes = do
  byte ← byte_at bytes
  may ← flagged byte.0
  Some (may, byte.1)

unfoldable pub call_at : List ℕ → Option (Call × List ℕ)
call_at = made (λ (x : ℕ × (ℕ × (ℕ × (Bool × Bool)))). record { stop = record { 0 = x.0 }; arr = x.1.0; dep = x.1.1.0; board = x.1.1.1.0; alight = x.1.1.1.1 })
    (both word_at (both word_at (both word_at flags_at)))

abbrev pub trip_form : Trip → List ℕ
trip_form trip = name_form trip.name ++ short_list call_form trip.calls

unfoldable pub trip_at : List ℕ → Option (Trip × List ℕ)
trip_at = made (λ (x : List ℕ × List Call). record { name = x.0; calls = x.1 }) (both name_at (counted word_at call_at))

abbrev pub shortcut_form : Shortcut → List ℕ
shortcut_form entry = word entry.from.0 ++ (word entry.to.0 ++ long entry.seconds)

unfoldable pub shortcut_at : List ℕ → Option (Shortcut × List ℕ)
shortcut_at = made (λ (x : ℕ × (ℕ × ℕ)). record { from = record { 0 = x.0 }; to = record { 0 = x.1.0 }; seconds = x.1.1 }) (both word_at (both word_at long_at))

abbrev pub up_down_form : UpDown → List ℕ
up_down_form arc = word arc.from.0 ++ (word arc.to.0 ++ (long arc.seconds ++ word arc.middle.0))

unfoldable pub up_down_at : List ℕ → Option (UpDown × List ℕ)
up_down_at = made (λ (x : ℕ × (ℕ × (ℕ × ℕ))). record { from = record { 0 = x.0 }; to = record { 0 = x.1.0 }; seconds = x.1.1.0; middle = record { 0 = x.1.1.1 } })
    (both word_at (both word_at (both long_at word_at)))

abbrev pub bucket_form : Bucket → List ℕ
bucket_form entry = word entry.node.0 ++ (word entry.stop.0 ++ long entry.seconds)

unfoldable pub bucket_at : List ℕ → Option (Bucket × List ℕ)
bucket_at = made (λ (x : ℕ × (ℕ × ℕ)). record { node = record { 0 = x.0 }; stop = record { 0 = x.1.0 }; seconds = x.1.1 }) (both word_at (both word_at long_at))
