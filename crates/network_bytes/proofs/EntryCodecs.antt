-- The forms of entries, and the reading of them.
use Rattle.std.proofs.Common.{◌≡◌, ℕ, zero, suc, ◌^◌, ◌<◌, ◌++◌, Bool, true, false, List, [], ◌∷◌, length, Option, Some, None, refl, subst, ◌∙◌, arith}
use Rattle.std.specs.List.{AllByRecursion}
use Rattle.move_model.specs.declared.network.Arc.{Arc}
use Rattle.move_model.specs.declared.network.Stop.{Stop}
use Rattle.move_model.specs.declared.network.Call.{Call}
use Rattle.move_model.specs.declared.network.Trip.{Trip}
use Rattle.move_model.specs.declared.journey.Shortcut.{Shortcut}
use Rattle.walk_hierarchy.specs.declared.arcs.UpDown.{UpDown}
use Rattle.bucket_walks.specs.declared.bucket.Bucket.{Bucket}
use Rattle.network_bytes.specs.Front.{◌>>=◌, word_at, long_at, byte_at, name_at, both, made, counted}
use Rattle.network_bytes.specs.Forms.{arc_form, arc_at, stop_form, stop_at, flags, flagged, flags_at, call_form, call_at, trip_form, trip_at, shortcut_form, shortcut_at, up_down_form, up_down_at, bucket_form, bucket_at}
use Rattle.network_bytes.specs.Fits.{ArcFits, StopFits, CallFits, TripFits, ShortcutFits, UpDownFits, BucketFits}
use Rattle.network_bytes.proofs.Codec.{IsBytes, Takes, bind_some, some_is, IsCodec, word_codec, long_codec, byte_codec, name_codec, both_codec, made_codec, counted_codec}

pub arc_codec : IsCodec arc_form ArcFits arc_at
unfolding arc_at
arc_codec = made_codec (λ (x : ℕ × (ℕ × ℕ)). record { from = record { 0 = x.0 }; to = record { 0 = x.1.0 }; seconds = x.1.1 }) (λ (arc : Arc). (arc.from.0, (arc.to.0, arc.seconds)))
    (λ _. refl) (λ _. refl) (both_codec word_codec (both_codec word_codec word_codec))

pub stop_codec : IsCodec stop_form StopFits stop_at
unfolding stop_at
stop_codec = made_codec (λ (x : ℕ × List ℕ). record { node = record { 0 = x.0 }; name = x.1 }) (λ (stop : Stop). (stop.node.0, stop.name))
    (λ _. refl) (λ _. refl) (both_codec word_codec name_codec)

flagged_is : (n : ℕ) (may : Bool × Bool) → flagged n ≡ Some may → flags may.0 may.1 ≡ n
flagged_is zero may e = let is = some_is (false, false) may e in subst (λ (m : Bool × Bool). flags m.0 m.1 ≡ 0) is refl
flagged_is (suc zero) may e = let is = some_is (true, false) may e in subst (λ (m : Bool × Bool). flags m.0 m.1 ≡ 1) is refl
flagged_is (suc (suc zero)) may e = let is = some_is (false, true) may e in subst (λ (m : Bool × Bool). flags m.0 m.1 ≡ 2) is refl
flagged_is (suc (suc (suc zero))) may e = let is = some_is (true, true) may e in subst (λ (m : Bool × Bool). flags m.0 m.1 ≡ 3) is refl
flagged_is (suc (suc (suc (suc n)))) may e = absurd cc

is_flagged : (may : Bool × Bool) → flagged (flags may.0 may.1) ≡ Some may
is_flagged (true, true) = refl
is_flagged (true, false) = refl
is_flagged (false, true) = refl
is_flagged (false, false) = refl

flags_take : (bytes : List ℕ) (x : (Bool × Bool) × List ℕ) → IsBytes bytes → flags_at bytes ≡ Some x → Takes bytes (flags x.0.0 x.0.1 ∷ []) x.1 × Unit {0}
flags_take bytes x fits e =
    let a = bind_some (byte_at bytes) (λ byte. flagged byte.0 >>= λ may. Some (may, byte.1)) x e in
    let b = bind_some (flagged a.0.0) (λ may. Some (may, a.0.1)) x a.2 in
    let t = byte_codec.takes bytes a.0 fits a.1 in
    let seen : (Bool × Bool) × List ℕ = (b.0, a.0.1) in
    subst (λ (y : (Bool × Bool) × List ℕ). Takes bytes (flags y.0.0 y.0.1 ∷ []) y.1 × Unit {0}) (some_is seen x b.2) (rw (flagged_is a.0.0 b.0 b.1) t.0, tt)

flags_again : (may : Bool × Bool) (rest : List ℕ) → Unit {0} → flags_at ((flags may.0 may.1 ∷ []) ++ rest) ≡ Some (may, rest)
unfolding byte_at
flags_again may rest fits = rw (is_flagged may) refl

pub flags_codec : IsCodec (λ may. flags may.0 may.1 ∷ []) (λ _. Unit {0}) flags_at
flags_codec = record { takes = flags_take; again = flags_again }

pub call_codec : IsCodec call_form CallFits call_at
unfolding call_at
call_codec = made_codec (λ (x : ℕ × (ℕ × (ℕ × (Bool × Bool)))). record { stop = record { 0 = x.0 }; arr = x.1.0; dep = x.1.1.0; board = x.1.1.1.0; alight = x.1.1.1.1 })
    (λ (call : Call). (call.stop.0, (call.arr, (call.dep, (call.board, call.alight)))))
    (λ _. refl) (λ _. refl) (both_codec word_codec (both_codec word_codec (both_codec word_codec flags_codec)))

pub trip_codec : IsCodec trip_form TripFits trip_at
unfolding trip_at
trip_codec = made_codec (λ (x : List ℕ × List Call). record { name = x.0; calls = x.1 }) (λ (trip : Trip). (trip.name, trip.calls))
    (λ _. refl) (λ _. refl) (both_codec name_codec (counted_codec word_codec call_codec))

pub shortcut_codec : IsCodec shortcut_form ShortcutFits shortcut_at
unfolding shortcut_at
shortcut_codec = made_codec (λ (x : ℕ × (ℕ × ℕ)). record { from = record { 0 = x.0 }; to = record { 0 = x.1.0 }; seconds = x.1.1 }) (λ (entry : Shortcut). (entry.from.0, (entry.to.0, entry.seconds)))
    (λ _. refl) (λ _. refl) (both_codec word_codec (both_codec word_codec long_codec))

pub up_down_codec : IsCodec up_down_form UpDownFits up_down_at
unfolding up_down_at
up_down_codec = made_codec (λ (x : ℕ × (ℕ × (ℕ × ℕ))). record { from = record { 0 = x.0 }; to = record { 0 = x.1.0 }; seconds = x.1.1.0; middle = record { 0 = x.1.1.1 } })
    (λ (arc : UpDown). (arc.from.0, (arc.to.0, (arc.seconds, arc.middle.0))))
    (λ _. refl) (λ _. refl) (both_codec word_codec (both_codec word_codec (both_codec long_codec word_codec)))

pub bucket_codec : IsCodec bucket_form BucketFits bucket_at
unfolding bucket_at
bucket_codec = made_codec (λ (x : ℕ × (ℕ × ℕ)). record { node = record { 0 = x.0 }; stop = record { 0 = x.1.0 }; seconds = x.1.1 }) (λ (entry : Bucket). (entry.node.0, (entry.stop.0, entry.seconds)))
    (λ _. refl) (λ _. refl) (both_codec word_codec (both_codec word_codec long_codec))
