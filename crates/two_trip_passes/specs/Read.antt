-- Reading needed walks off the labels.
--     Pair                               two stops
--     arrival best w                     when the second ride to the stop w is left, or none
--     IsNear rows best w q a             two rides to the stop w, and a walk to the place q, are earlier than a second ride left at a
--     HasNear rows best q a              they are so for some stop
--     IsReadAt rows foot z own .. v x y  the labels say at the stop v that the walk from x to y is needed
--     IsReadBefore rows foot z before .. v x y   they say so of a second ride that is left before a second
--     IsReadOf rows foot z own .. v a x y   they say so at the stop v, which exists, of a second ride that is left at second a
--     IsOwnKey foot z own boarded v key  a key is that of a first ride of the start itself, and neither a walk nor one ride is as early
--     HasRead rows foot z before .. m x y   they say at one of the first m stops that the walk from x to y is needed, of a second ride
--                                        that is left before a second
--     IsReadUntil rows foot z .. v until   what they say so at the stop v is known, or of a second ride that is left before `until`
--     IsReadLast rows foot z .. m until  they say so at one of the first m stops of a second ride that is left at the second before `until`
--     key_pair key                       the two stops that a key walks between
--     IsFound known pairs q              q is one of the pairs that are known or were added
use Rattle.std.specs.Prelude.{◌≡◌, ℕ, ◌+◌, ◌-◌, ◌<◌, ◌≤◌, ◌⊎◌, List, [], ◌∷◌, length, slice_index, Contains}
use Rattle.move_model.specs.declared.network.StopNo.{StopNo}
use Rattle.move_model.specs.Shortcut.{IsLess}
use Rattle.stop_rows.specs.Rows.{Rows, entry, place_at}
use Rattle.piece_laws.specs.declared.labels.Ready.{Ready}
use Rattle.piece_laws.specs.declared.labels.Second.{Second}
use Rattle.two_trip_rides.specs.Second.{ready_at, second_at}
use Rattle.two_trip_labels.specs.Closed.{last_second}
use Rattle.two_trip_passes.specs.Own.{own_at}

abbrev pub Pair : Type 0
Pair = StopNo × StopNo

abbrev pub arrival : List Second → StopNo → ℕ
arrival best w = (second_at best w.0).a2

-- in the order of keys, where the last walk is
abbrev pub IsNear : Rows → List Second → StopNo → ℕ → ℕ → Type 0
IsNear rows best w q a = IsLess ((arrival best w + entry rows (place_at rows w) q) ∷ arrival best w ∷ []) (a ∷ a ∷ [])

pub record HasNear (rows : Rows) (best : List Second) (q a : ℕ) : Type 0 where
  pub stop : StopNo
  pub exists : stop.0 < length rows.places
  pub near : IsNear rows best stop q a

-- a first ride of the start itself; no walk and no one ride is as early; and no other stop of two rides is near enough
pub record IsReadAt (rows : Rows) (foot : List ℕ) (z : ℕ) (own : List ℕ) (boarded : List Ready) (best : List Second) (v x y : StopNo) : Type 0 where
  pub within : arrival best v ≤ last_second
  pub c_is : (second_at best v.0).label.c ≡ 1 + x.0
  pub y_is : (second_at best v.0).y ≡ y.0
  pub own_is : own_at own x ≡ (second_at best v.0).label.a1
  pub no_foot : arrival best v < z + slice_index foot v.0
  pub no_ride : arrival best v < (ready_at boarded v.0).ready
  pub no_far : ¬ (HasNear rows best (place_at rows v) (arrival best v))

pub record IsReadBefore (rows : Rows) (foot : List ℕ) (z before : ℕ) (own : List ℕ) (boarded : List Ready) (best : List Second) (v x y : StopNo) : Type 0 where
  pub early : arrival best v < before
  pub read : IsReadAt rows foot z own boarded best v x y

pub record IsReadOf (rows : Rows) (foot : List ℕ) (z : ℕ) (own : List ℕ) (boarded : List Ready) (best : List Second) (v : StopNo) (a : ℕ) (x y : StopNo) : Type 0 where
  pub exists : v.0 < length rows.places
  pub read : IsReadAt rows foot z own boarded best v x y
  pub left_by : arrival best v ≡ a

-- what is asked of a key at the stop v, but for other stops
pub record IsOwnKey (foot : List ℕ) (z : ℕ) (own : List ℕ) (boarded : List Ready) (v : StopNo) (key : Second) : Type 0 where
  pub within : key.a2 ≤ last_second
  pub some : 0 < key.label.c
  pub own_is : own_at own (record { 0 = key.label.c - 1 }) ≡ key.label.a1
  pub no_foot : key.a2 < z + slice_index foot v.0
  pub no_ride : key.a2 < (ready_at boarded v.0).ready

pub record HasRead (rows : Rows) (foot : List ℕ) (z before : ℕ) (own : List ℕ) (boarded : List Ready) (best : List Second) (many : ℕ) (x y : StopNo) : Type 0 where
  pub stop : StopNo
  pub exists : stop.0 < many
  pub read : IsReadBefore rows foot z before own boarded best stop x y

abbrev pub key_pair : Second → Pair
key_pair key = (record { 0 = key.label.c - 1 }, record { 0 = key.y })

-- at the stop v
abbrev pub IsReadUntil : Rows → List ℕ → ℕ → List ℕ → List Ready → List Second → List Pair → StopNo → ℕ → Type 0
IsReadUntil rows foot z own boarded best known v until =
    (q : Pair) → IsReadAt rows foot z own boarded best v q.0 q.1 → Contains known q ⊎ (arrival best v < until)

pub record IsReadLast (rows : Rows) (foot : List ℕ) (z : ℕ) (own : List ℕ) (boarded : List Ready) (best : List Second) (many until : ℕ) : Type 0 where
  pub stop : StopNo
  pub exists : stop.0 < many
  pub pair : Pair
  pub read : IsReadAt rows foot z own boarded best stop pair.0 pair.1
  pub is_last : until ≡ 1 + arrival best stop

abbrev pub IsFound : List Pair → List Pair → Pair → Type 0
IsFound known pairs q = Contains known q ⊎ Contains pairs q
