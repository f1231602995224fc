-- Rows of frequencies.txt, sorted by trip.
use Rattle.std.proofs.Common.{◌≡◌, ℕ, ◌+◌, ◌≤◌, ◌==◌, ◌&&◌, not, true, false, nat_lt, List, length, take, drop, sym, ◌∙◌, arith, length-drop}
use Rattle.std.specs.Prelude.{nat_le}
use Rattle.std.specs.Ordering.{nat_cmp, is_lt}
use Rattle.std.specs.List.Sorted.{IsNonDecreasingBy, IsPartitionPoint, IsPartitionedBy, IsStableByKey}
use Rattle.std.proofs.lemmas.Bool.Decides.{nat_tests}
use Rattle.std.proofs.lemmas.List.{get_or-drop}
use Rattle.std.proofs.lemmas.List.Elements.{filter_agree}
use Rattle.std.proofs.lemmas.List.Sorted.{IsPartitionedBy-ltb, IsPartitionedBy-leb, IsNonDecreasingBy-drop}
use Rattle.gtfs_feed.specs.declared.feed.CopyRow.{CopyRow}
use Rattle.service_day.specs.DayTrips.{rows_of}
use Rattle.service_day.proofs.ListLemmas.{filter_part}

-- rows that no comparison of their trips tells apart name one trip
tied : (place : ℕ) (row : CopyRow) → not (is_lt (nat_cmp place row.trip)) && not (is_lt (nat_cmp row.trip place)) ≡ (row.trip == place)
tied place row = by row.trip
  where
    by : (trip : ℕ) → not (is_lt (nat_cmp place trip)) && not (is_lt (nat_cmp trip place)) ≡ (trip == place)
    by trip = grind (arith, nat_tests)

-- a stable sort by trip keeps the rows of each trip in their order
pub rows_of-stable : (rows sorted : List CopyRow) → IsStableByKey (λ (row : CopyRow). row.trip) nat_cmp rows sorted → (place : ℕ) → rows_of place sorted ≡ rows_of place rows
rows_of-stable rows sorted h place =
    let row : CopyRow = record { trip = place; start = 0; end = 0; headway = 0 } in
    sym (filter_agree _ (λ (row : CopyRow). row.trip == place) (tied place) sorted)
    ∙ h row
    ∙ filter_agree _ (λ (row : CopyRow). row.trip == place) (tied place) rows

below : (trip place : ℕ) → nat_lt trip place ≡ true → (trip == place) ≡ false
below trip place h = grind (arith, nat_tests)

above : (trip place : ℕ) → nat_le trip place ≡ false → (trip == place) ≡ false
above trip place h = grind (arith, nat_tests)

at : (trip place : ℕ) → nat_lt trip place ≡ false → nat_le trip place ≡ true → (trip == place) ≡ true
at trip place h k = grind (arith, nat_tests)

-- the rows of a trip stand together: behind those of the trips before it
pub rows_of-part : (rows : List CopyRow) (place first count : ℕ) → count ≤ length (drop first rows)
    → IsPartitionPoint (λ (row : CopyRow). nat_lt row.trip place ≡ true) (λ (row : CopyRow). nat_lt row.trip place ≡ false) rows first
    → IsPartitionPoint (λ (row : CopyRow). nat_le row.trip place ≡ true) (λ (row : CopyRow). nat_le row.trip place ≡ false) (drop first rows) count
    → rows_of place rows ≡ take count (drop first rows)
rows_of-part rows place first count few h k =
    filter_part (λ row. row.trip == place) rows first count
    (λ j d low high. below _ place (h.0 j d low high))
    (λ j d low high. at _ place (rw (get_or-drop first rows j d) (h.1 (first + j) d (omega arith) (omega (arith, few, length-drop first rows)))) (k.0 j d low high))
    (λ j d low high. above _ place (k.1 j d low high))

pub parted_below : (rows : List CopyRow) (place : ℕ) → IsNonDecreasingBy (λ (row : CopyRow). row.trip) rows → IsPartitionedBy (λ (row : CopyRow). nat_lt row.trip place) rows
parted_below rows place rising = IsPartitionedBy-ltb (λ (row : CopyRow). row.trip) rows place rising

pub parted_upto : (rows : List CopyRow) (place first : ℕ) → IsNonDecreasingBy (λ (row : CopyRow). row.trip) rows → IsPartitionedBy (λ (row : CopyRow). nat_le row.trip place) (drop first rows)
parted_upto rows place first rising = IsPartitionedBy-leb (λ (row : CopyRow). row.trip) (drop first rows) place (IsNonDecreasingBy-drop (λ (row : CopyRow). row.trip) first rows rising)
