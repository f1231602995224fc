-- The trips of a feed have one first fault: a row is of one trip, and a trip has one call of a row.
use Rattle.std.proofs.Common.{◌≡◌, ◌∙◌, ℕ, zero, suc, ◌+◌, ◌-◌, ◌<◌, ◌==◌, ◌&&◌, Bool, true, false, List, [], ◌∷◌, All, Option, Some, None, refl, sym, ap, subst, arith, inl, inr, if◌then◌else◌}
use Rattle.std.specs.Prelude.{slice_get}
use Rattle.std.specs.List.{AllByRecursion, IsDistinct}
use Rattle.std.proofs.lemmas.Bool.{cases_order}
use Rattle.std.proofs.lemmas.Bool.Decides.{nat_tests}
use Rattle.std.proofs.lemmas.List.Sorted.{All-permutation}
use Rattle.std.proofs.lemmas.Map.Keys.{IsDistinct-IsPermutation}
use Rattle.std.proofs.lemmas.Option.{slice_get_within, get_or_from_slice_get}
use Rattle.move_model.specs.declared.refusal.Cause.{Cause}
use Rattle.tables.specs.Table.{header_of, rows_of, row_at}
use Rattle.trip_calls.specs.declared.kept.KeptCall.{KeptCall}
use Rattle.trip_calls.specs.CallRules.{call_cause}
use Rattle.trip_calls.specs.Order.{IsTripOrder}
use Rattle.gtfs_feed.specs.Calls.{StopRows, is_place, is_call_of, kept_call, calls_behind, call_columns, trip_calls}
use Rattle.gtfs_feed.specs.TripRules.{IsTripFault, IsFirstTripFault}
use Rattle.top_call.proofs.StableLemmas.{order_unique}

abbrev same_row : KeptCall → KeptCall → Bool
same_row x y = x.row == y.row

-- the call is of this row of the trip, in rows behind so many rows
abbrev IsOf : List (List ℕ) → List (List ℕ) → ℕ → ℕ → List (List (List ℕ)) → KeptCall → Type 0
IsOf header trips k n rows call = (n < call.row) × (is_call_of (call_columns header) trips k (row_at rows (call.row - n - 1)) ≡ true)

all-map : {X : Type 0} (P Q : X → Type 0) (xs : List X) → ((x : X) → P x → Q x) → AllByRecursion P xs → AllByRecursion Q xs
all-map P Q [] f h = tt
all-map P Q (x ∷ xs) f h = (f x h.0, all-map P Q xs f h.1)

all-of : {X : Type 0} (P : X → Type 0) (xs : List X) → AllByRecursion P xs → All P xs
all-of P [] h = λ k d lt. absurd (omega arith)
all-of P (x ∷ xs) h = elim [ zero ↦ λ d lt. h.0 | suc k ↦ λ d lt. all-of P xs h.1 k d (omega arith) ]

one-behind : (header : List (List ℕ)) (trips : List (List ℕ)) (k n : ℕ) (row : List (List ℕ)) (rows : List (List (List ℕ))) (call : KeptCall)
    → IsOf header trips k (n + 1) rows call → IsOf header trips k n (row ∷ rows) call
one-behind header trips k n row rows call h =
    let e : call.row - n - 1 ≡ suc (call.row - (n + 1) - 1) = omega (arith, h.0) in
    (omega (arith, h.0), rw e h.1)

here-of : (header : List (List ℕ)) (stops : StopRows) (trips : List (List ℕ)) (k n : ℕ) (row : List (List ℕ)) (rows : List (List (List ℕ))) → is_call_of (call_columns header) trips k row ≡ true
    → IsOf header trips k n (row ∷ rows) (kept_call (call_columns header) stops (n + 1) row)
here-of header stops trips k n row rows is = let e : n + 1 - n - 1 ≡ 0 = omega arith in (omega arith, rw e is)

more-rows : (b : Bool) (header : List (List ℕ)) (stops : StopRows) (trips : List (List ℕ)) (k n : ℕ) (row : List (List ℕ)) (rows : List (List (List ℕ))) (calls : List KeptCall)
    → is_call_of (call_columns header) trips k row ≡ b → AllByRecursion (IsOf header trips k (n + 1) rows) calls
    → AllByRecursion (IsOf header trips k n (row ∷ rows)) (if b then kept_call (call_columns header) stops (n + 1) row ∷ calls else calls)
more-rows true header stops trips k n row rows calls is h = (here-of header stops trips k n row rows is, all-map _ _ calls (one-behind header trips k n row rows) h)
more-rows false header stops trips k n row rows calls is h = all-map _ _ calls (one-behind header trips k n row rows) h

rows-of-calls : (header : List (List ℕ)) (stops : StopRows) (trips : List (List ℕ)) (k n : ℕ) (rows : List (List (List ℕ))) → AllByRecursion (IsOf header trips k n rows) (calls_behind (call_columns header) stops trips k n rows)
unfolding calls_behind
rows-of-calls header stops trips k n [] = tt
rows-of-calls header stops trips k n (row ∷ rows) = more-rows (is_call_of (call_columns header) trips k row) header stops trips k n row rows (calls_behind (call_columns header) stops trips k (n + 1) rows) refl (rows-of-calls header stops trips k (n + 1) rows)

apart : (header : List (List ℕ)) (stops : StopRows) (trips : List (List ℕ)) (k n : ℕ) (row : List (List ℕ)) (rows : List (List (List ℕ))) (call : KeptCall)
    → IsOf header trips k (n + 1) rows call → same_row (kept_call (call_columns header) stops (n + 1) row) call ≡ false
apart header stops trips k n row rows call h = let lt : n + 1 < call.row = h.0 in grind (arith, nat_tests)

more-distinct : (b : Bool) (header : List (List ℕ)) (stops : StopRows) (trips : List (List ℕ)) (k n : ℕ) (row : List (List ℕ)) (rows : List (List (List ℕ))) (calls : List KeptCall)
    → AllByRecursion (IsOf header trips k (n + 1) rows) calls → IsDistinct same_row calls → IsDistinct same_row (if b then kept_call (call_columns header) stops (n + 1) row ∷ calls else calls)
unfolding IsDistinct
more-distinct true header stops trips k n row rows calls of h = (all-map _ _ calls (apart header stops trips k n row rows) of, h)
more-distinct false header stops trips k n row rows calls of h = h

rows-distinct : (header : List (List ℕ)) (stops : StopRows) (trips : List (List ℕ)) (k n : ℕ) (rows : List (List (List ℕ))) → IsDistinct same_row (calls_behind (call_columns header) stops trips k n rows)
unfolding calls_behind IsDistinct
rows-distinct header stops trips k n [] = tt
rows-distinct header stops trips k n (row ∷ rows) =
    more-distinct (is_call_of (call_columns header) trips k row) header stops trips k n row rows (calls_behind (call_columns header) stops trips k (n + 1) rows)
    (rows-of-calls header stops trips k (n + 1) rows) (rows-distinct header stops trips k (n + 1) rows)

-- elements that stand at two places differ
all-at : {X : Type 0} (P : X → Type 0) (xs : List X) (i : ℕ) (x : X) → AllByRecursion P xs → slice_get xs i ≡ Some x → P x
all-at P [] i x h at = cc at
all-at P (y ∷ xs) zero x h at = let same : y ≡ x = cc at in subst P same h.0
all-at P (y ∷ xs) (suc i) x h at = all-at P xs i x h.1 at

one-place : (xs : List KeptCall) (i j : ℕ) (x y : KeptCall) → IsDistinct same_row xs → slice_get xs i ≡ Some x → slice_get xs j ≡ Some y → x.row ≡ y.row → i ≡ j
unfolding IsDistinct
one-place [] i j x y h a b e = cc a
one-place (z ∷ xs) zero zero x y h a b e = refl
one-place (z ∷ xs) zero (suc j) x y h a b e =
    let same : z ≡ x = cc a in
    let differ = rw same at (all-at (λ w. same_row z w ≡ false) xs j y h.0 b) in
    absurd (grind (arith, nat_tests))
one-place (z ∷ xs) (suc i) zero x y h a b e =
    let same : z ≡ y = cc b in
    let differ = rw same at (all-at (λ w. same_row z w ≡ false) xs i x h.0 a) in
    absurd (grind (arith, nat_tests))
one-place (z ∷ xs) (suc i) (suc j) x y h a b e = ap suc (one-place xs i j x y h.1 a b e)

-- a row is of one trip
one-trip : (b : Bool) (o : Option ℕ) (k l : ℕ) → (b && is_place k o) ≡ true → (b && is_place l o) ≡ true → k ≡ l
one-trip false o k l a b = cc a
one-trip true None k l a b = cc a
one-trip true (Some p) k l a b = grind (arith, nat_tests)

of-one-trip : (header : List (List ℕ)) (trips : List (List ℕ)) (k l : ℕ) (row : List (List ℕ)) → is_call_of (call_columns header) trips k row ≡ true → is_call_of (call_columns header) trips l row ≡ true → k ≡ l
unfolding is_call_of
of-one-trip header trips k l row a b = one-trip _ _ k l a b

module _ (stops : StopRows) (trips : List (List ℕ)) (bytes : List ℕ) where
  abbrev calls : ℕ → List KeptCall
  calls = trip_calls stops trips bytes

  abbrev header : List (List ℕ)
  header = header_of bytes

  fault-row : (k row : ℕ) (because : Cause) → (f : IsTripFault (calls k) row because) → IsOf header trips k 0 (rows_of bytes) f.call
  unfolding trip_calls
  fault-row k row because f =
      let all = All-permutation (IsOf header trips k 0 (rows_of bytes)) (calls k) f.sorted f.order.same_calls (all-of _ (calls k) (rows-of-calls header stops trips k 0 (rows_of bytes))) in
      subst (IsOf header trips k 0 (rows_of bytes)) (get_or_from_slice_get f.sorted f.place f.call f.call f.here) (all f.place f.call (slice_get_within f.sorted f.place f.call f.here))

  distinct-sorted : (k : ℕ) (sorted : List KeptCall) → IsTripOrder (calls k) sorted → IsDistinct same_row sorted
  unfolding trip_calls
  distinct-sorted k sorted order = IsDistinct-IsPermutation same_row (λ x y. grind (arith, nat_tests)) (calls k) sorted order.same_calls (rows-distinct header stops trips k 0 (rows_of bytes))

  -- a fault of a row below the first
  not-before : (n row other : ℕ) (because another : Cause) → (f : IsFirstTripFault calls n row because) → (g : IsFirstTripFault calls n other another) → row < other → ⊥
  not-before n row other because another f g lt =
      let h = g.first f.trip f.within f.fault.goes in
      let same = order_unique (calls f.trip) f.fault.sorted h.sorted f.fault.order h.order in
      let here = rw same at f.fault.here in
      let broken = rw same at f.fault.breaks in
      let none = h.holds f.fault.place f.fault.call here (omega (arith, f.fault.in_row)) in
      cc (none, broken)

  -- the faults of one trip in one row
  same-fault : (k l row : ℕ) (because another : Cause) → k ≡ l → IsTripFault (calls k) row because → IsTripFault (calls l) row another → because ≡ another
  same-fault k l row because another e f g =
      let other : IsTripFault (calls k) row another = rw e g in
      let same = order_unique (calls k) other.sorted f.sorted other.order f.order in
      let here = rw same at other.here in
      let broken = rw same at other.breaks in
      let place = one-place f.sorted f.place other.place f.call other.call (distinct-sorted k f.sorted f.order) f.here here (f.in_row ∙ sym other.in_row) in
      let left : call_cause f.sorted other.place ≡ Some because = rw place at f.breaks in
      let both : Some because ≡ Some another = sym left ∙ broken in
      cc both

  pub fault_once : (n row other : ℕ) (because another : Cause) → IsFirstTripFault calls n row because → IsFirstTripFault calls n other another → (row ≡ other) × (because ≡ another)
  fault_once n row other because another f g =
      let rows : row ≡ other = elim (cases_order row other) [
        | inl same ↦ same
        | inr (inl lt) ↦ absurd (not-before n row other because another f g lt)
        | inr (inr gt) ↦ absurd (not-before n other row another because g f gt)
      ] in
      let left = (fault-row f.trip row because f.fault).1 in
      let right = (fault-row g.trip other another g.fault).1 in
      let one : is_call_of (call_columns header) trips f.trip (row_at (rows_of bytes) (row - 0 - 1)) ≡ true = rw (← f.fault.in_row) left in
      let two : is_call_of (call_columns header) trips g.trip (row_at (rows_of bytes) (row - 0 - 1)) ≡ true = rw (rows, ← g.fault.in_row) right in
      let trip = of-one-trip header trips f.trip g.trip (row_at (rows_of bytes) (row - 0 - 1)) one two in
      (rows, same-fault f.trip g.trip row because another trip f.fault (rw rows g.fault))
