-- The refusals of the table.
use Rattle.std.proofs.Common.{◌≡◌, ◌∙◌, ◌≤◌, ◌<◌, ℕ, List, [], ◌∷◌, length, map, true, false, Option, Some, None, refl, sym, ap, arith}
use Rattle.std.specs.Prelude.{nat_le}
use Rattle.gtfs_feed.specs.declared.feed.FeedStop.{FeedStop}
use Rattle.move_model.specs.declared.refusal.Cause.{Cause}
use Rattle.move_model.specs.declared.refusal.Cause.TheVariants as cause
use Rattle.move_model.specs.declared.refusal.FileKind.TheVariants as file
use Rattle.move_model.specs.declared.refusal.Refusal.{Refusal}
use Rattle.move_model.specs.declared.refusal.Stopped.{Stopped}
use Rattle.move_model.specs.declared.refusal.Stopped.TheVariants as stopped
use Rattle.refusals.specs.Refusal.{IsFirstRefusal, Accepted, first_cause, or_then}
use Rattle.refusals.proofs.RefusalLemmas.{first_cause-append, first_cause-map, refused_whole, refused_row, each_holds}
use Rattle.tables.specs.Table.{rows_of}
use Rattle.stop_places.specs.declared.columns.Columns.{Columns}
use Rattle.stop_places.specs.Rules.{column_rules, row_rules, row_behind}
use Rattle.stop_places.specs.Table.{columns_in, rows_broken, file_rules, IsTable, IsTableRefusal}

-- a refusal by its parts
abbrev pub refusal_at : ℕ → Cause → Refusal
refusal_at row cause = record { file = file.StopNodes; row = row; cause = cause }

pub same_refusal : (s : Stopped) (row : ℕ) (cause : Cause) (r : Refusal) → s ≡ stopped.Refused (refusal_at row cause) → s ≡ stopped.Refused r → refusal_at row cause ≡ r
same_refusal s row cause r a b = let e : stopped.Refused (refusal_at row cause) ≡ stopped.Refused r = sym a ∙ b in cc e

-- the causes of the whole file: that of its columns, and then that of its rows
file_cause : (bytes : List ℕ) → first_cause file_rules bytes ≡ or_then (first_cause column_rules (columns_in bytes)) (or_then (rows_broken bytes) None)
unfolding file_rules
file_cause bytes = rw (first_cause-append (map (λ (rule : Columns → Option Cause) (b : List ℕ). rule (columns_in b)) column_rules) (rows_broken ∷ []) bytes) (ap (λ o. or_then o (or_then (rows_broken bytes) None)) (first_cause-map columns_in column_rules bytes))

pub columns_refused : (stops : List FeedStop) (nodes : ℕ) (bytes : List ℕ) (cause : Cause) (r : Refusal) → first_cause column_rules (columns_in bytes) ≡ Some cause → refusal_at 0 cause ≡ r
    → (r.file ≡ file.StopNodes) × IsTableRefusal stops nodes bytes r.row r.cause
unfolding IsTableRefusal
columns_refused stops nodes bytes cause r broken e =
    let first : first_cause file_rules bytes ≡ Some cause = file_cause bytes ∙ rw broken refl in
    rw (← e) (refl, refused_whole file_rules bytes _ _ _ cause first)

pub rows_refused : (stops : List FeedStop) (nodes : ℕ) (bytes : List ℕ) (count : ℕ) (r : Refusal) → first_cause column_rules (columns_in bytes) ≡ None → count ≡ length (rows_of bytes) → 50000000 < length (rows_of bytes)
    → refusal_at 0 (cause.Limit count) ≡ r → (r.file ≡ file.StopNodes) × IsTableRefusal stops nodes bytes r.row r.cause
unfolding IsTableRefusal rows_broken
rows_refused stops nodes bytes count r holds is many e =
    let above : nat_le (length (rows_of bytes)) 50000000 ≡ false = grind arith in
    let first : first_cause file_rules bytes ≡ Some (cause.Limit count) = file_cause bytes ∙ rw (holds, above, is) refl in
    rw (← e) (refl, refused_whole file_rules bytes _ _ _ _ first)

file_holds : (bytes : List ℕ) → first_cause column_rules (columns_in bytes) ≡ None → length (rows_of bytes) ≤ 50000000 → first_cause file_rules bytes ≡ None
unfolding rows_broken
file_holds bytes holds few =
    let within : nat_le (length (rows_of bytes)) 50000000 ≡ true = grind arith in
    file_cause bytes ∙ rw (holds, within) refl

pub row_refused : (stops : List FeedStop) (nodes : ℕ) (bytes : List ℕ) (r : Refusal) → first_cause column_rules (columns_in bytes) ≡ None → length (rows_of bytes) ≤ 50000000
    → (r.file ≡ file.StopNodes) × IsFirstRefusal (row_rules stops nodes (columns_in bytes)) (row_behind (columns_in bytes) (rows_of bytes)) (length (rows_of bytes)) r.row r.cause
    → (r.file ≡ file.StopNodes) × IsTableRefusal stops nodes bytes r.row r.cause
unfolding IsTableRefusal
row_refused stops nodes bytes r holds few refused = (refused.0, refused_row file_rules bytes _ _ _ _ _ (file_holds bytes holds few) refused.1)

pub file_accepted : (stops : List FeedStop) (nodes : ℕ) (bytes : List ℕ) → first_cause column_rules (columns_in bytes) ≡ None → length (rows_of bytes) ≤ 50000000
    → Accepted (row_rules stops nodes (columns_in bytes)) (row_behind (columns_in bytes) (rows_of bytes)) (length (rows_of bytes)) → IsTable stops nodes bytes
unfolding IsTable
file_accepted stops nodes bytes holds few rows = (each_holds file_rules bytes (file_holds bytes holds few), rows)
