-- The stops of a file, as its refusals.
use Rattle.std.proofs.Common.{◌≡◌, ◌∙◌, ℕ, ◌+◌, ◌<◌, ◌≤◌, List, length, Option, Some, None, true, false, refl, sym, ap, inl, inr, arith}
use Rattle.std.specs.Prelude.{nat_le}
use Rattle.std.proofs.lemmas.Bool.Decides.{nat_tests}
use Rattle.move_model.specs.declared.refusal.Cause.{Cause}
use Rattle.move_model.specs.declared.refusal.Cause.TheVariants as cause
use Rattle.move_model.specs.declared.refusal.FileKind.{FileKind}
use Rattle.move_model.specs.declared.refusal.Stopped.{Stopped}
use Rattle.move_model.specs.declared.refusal.Stopped.TheVariants as stopped
use Rattle.gtfs_feed.specs.declared.refuse.RowStop.{RowStop}
use Rattle.gtfs_feed.specs.RowStops.{Breaks, IsRowStop}
use Rattle.gtfs_feed.specs.Table.{rows_broken, file_broken, IsTableRefusal, Refuses, RefusesTable}

pub weaker : (stop : Stopped) (P Q : FileKind → ℕ → Cause → Type 0) → Refuses stop P → ((file : FileKind) (row : ℕ) (because : Cause) → P file row because → Q file row because) → Refuses stop Q
weaker stopped.NoMemory P Q h f = tt
weaker (stopped.Refused refusal) P Q h f = f refusal.file refusal.row refusal.cause h

pub wants : (stop : Stopped) (P : FileKind → ℕ → Cause → Type 0) → stop ≡ stopped.NoMemory → Refuses stop P
wants stopped.NoMemory P e = tt
wants (stopped.Refused refusal) P e = cc e

few-rows : (rows : List (List (List ℕ))) → length rows ≤ 50000000 → rows_broken rows ≡ None
unfolding rows_broken
few-rows rows few = let fits : nat_le (length rows) 50000000 ≡ true = grind (arith, nat_tests) in rw fits refl

many-rows : (rows : List (List (List ℕ))) → 50000000 < length rows → rows_broken rows ≡ Some (cause.Limit (length rows))
unfolding rows_broken
many-rows rows many = let over : nat_le (length rows) 50000000 ≡ false = grind (arith, nat_tests) in rw over refl

pub whole : (missing : Option Cause) (rows : List (List (List ℕ))) → missing ≡ None → length rows ≤ 50000000 → file_broken missing rows ≡ None
whole missing rows there few = rw there (few-rows rows few)

-- a column is missing
pub refuses_column : (kind : FileKind) (missing : Option Cause) (rows : List (List (List ℕ))) (broken : ℕ → Option Cause) (found : Cause) (stop : Stopped)
    → missing ≡ Some found → Refuses stop (λ file row because. (file ≡ kind) × (row ≡ 0) × (because ≡ found)) → RefusesTable kind missing rows broken stop
refuses_column kind missing rows broken found stop is h =
    weaker stop (λ file row because. (file ≡ kind) × (row ≡ 0) × (because ≡ found)) (λ file row because. (file ≡ kind) × IsTableRefusal missing rows broken row because) h
    (λ file row because p. (p.0, inl (p.1, rw is (ap (λ (c : Cause). Some c) (sym p.2)))))

-- the file has too many rows
pub refuses_limit : (kind : FileKind) (missing : Option Cause) (rows : List (List (List ℕ))) (broken : ℕ → Option Cause) (stop : Stopped) → missing ≡ None
    → Refuses stop (λ file row because. (file ≡ kind) × (row ≡ 0) × (because ≡ cause.Limit (length rows)) × (50000000 < length rows))
    → RefusesTable kind missing rows broken stop
refuses_limit kind missing rows broken stop there h =
    weaker stop (λ file row because. (file ≡ kind) × (row ≡ 0) × (because ≡ cause.Limit (length rows)) × (50000000 < length rows))
    (λ file row because. (file ≡ kind) × IsTableRefusal missing rows broken row because) h
    (λ file row because p. (p.0, inl (p.1, rw there (many-rows rows p.3 ∙ ap (λ (c : Cause). Some c) (sym p.2)))))

row-refusal : (kind : FileKind) (missing : Option Cause) (rows : List (List (List ℕ))) (broken : ℕ → Option Cause) (n : ℕ) (stop : RowStop) (file : FileKind) (row : ℕ) (because : Cause)
    → missing ≡ None → n < length rows → ((i : ℕ) → i < n → broken i ≡ None) → Breaks (broken n) stop
    → IsRowStop kind (length rows) (n + 1) stop file row because → (file ≡ kind) × IsTableRefusal missing rows broken row because
row-refusal kind missing rows broken n stop file row because there lt so_far breaks (same, inl (zero, limit, many)) =
    (same, inl (zero, rw there (many-rows rows many ∙ ap (λ (c : Cause). Some c) (sym limit))))
row-refusal kind missing rows broken n stop file row because there lt so_far breaks (same, inr (at, is, few)) =
    (same, inr (whole missing rows there few, record { place = n; number = at; within = lt; earlier = so_far; breaks = rw is at breaks }))

-- a row was not taken
pub refuses_row : (kind : FileKind) (missing : Option Cause) (rows : List (List (List ℕ))) (broken : ℕ → Option Cause) (n : ℕ) (row_stop : RowStop) (stop : Stopped)
    → missing ≡ None → n < length rows → ((i : ℕ) → i < n → broken i ≡ None) → Breaks (broken n) row_stop
    → Refuses stop (IsRowStop kind (length rows) (n + 1) row_stop) → RefusesTable kind missing rows broken stop
refuses_row kind missing rows broken n row_stop stop there lt so_far breaks h =
    weaker stop (IsRowStop kind (length rows) (n + 1) row_stop) (λ file row because. (file ≡ kind) × IsTableRefusal missing rows broken row because) h
    (λ file row because p. row-refusal kind missing rows broken n row_stop file row because there lt so_far breaks p)
