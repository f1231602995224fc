-- The refusals of a file of queries.
use Rattle.std.proofs.Common.{◌≡◌, ◌∙◌, ◌≤◌, ◌<◌, ℕ, List, [], ◌∷◌, ◌++◌, length, map, Bool, true, false, Option, Some, None, refl, sym, ap, arith}
use Rattle.std.specs.Prelude.{nat_le, if◌then◌else◌}
use Rattle.move_model.specs.declared.network.Network.{Network}
use Rattle.move_model.specs.declared.refusal.Cause.{Cause}
use Rattle.move_model.specs.declared.refusal.Cause.TheVariants as cause
use Rattle.move_model.specs.declared.refusal.FileKind.TheVariants as file
use Rattle.move_model.specs.declared.refusal.Refusal.{Refusal}
use Rattle.move_model.specs.declared.refusal.Stopped.{Stopped}
use Rattle.move_model.specs.declared.refusal.Stopped.TheVariants as stopped
use Rattle.refusals.specs.Refusal.{IsFirstRefusal, Accepted, first_cause, or_then}
use Rattle.refusals.proofs.RefusalLemmas.{file_not_both, one_file_refusal, first_cause-append, first_cause-map, refused_whole, refused_row, each_holds}
use Rattle.tables.specs.Table.{header_of, rows_of, row_at}
use Rattle.query_table.specs.declared.columns.Columns.{Columns}
use Rattle.query_table.specs.Rules.{column_rules, columns_of, query_rules}
use Rattle.query_table.specs.Queries.{columns_in, rows_broken, file_rules, IsQueryTable, IsQueryRefusal, queries_of}

-- a refusal by its parts
abbrev pub refusal_at : ℕ → Cause → Refusal
refusal_at row cause = record { file = file.Queries; row = row; cause = cause }

pub same_refusal : (s : Stopped) (row : ℕ) (cause : Cause) (r : Refusal) → s ≡ stopped.Refused (refusal_at row cause) → s ≡ stopped.Refused r → refusal_at row cause ≡ r
same_refusal s row cause r a b = let e : stopped.Refused (refusal_at row cause) ≡ stopped.Refused r = sym a ∙ b in cc e

-- the causes of the whole file: that of its columns, and then that of its rows
file_cause : (bytes : List ℕ) → first_cause file_rules bytes ≡ or_then (first_cause column_rules (columns_in bytes)) (or_then (rows_broken bytes) None)
unfolding file_rules
file_cause bytes = rw (first_cause-append (map (λ (rule : Columns → Option Cause) (b : List ℕ). rule (columns_in b)) column_rules) (rows_broken ∷ []) bytes) (ap (λ o. or_then o (or_then (rows_broken bytes) None)) (first_cause-map columns_in column_rules bytes))

pub columns_refused : (n : Network) (bytes : List ℕ) (cause : Cause) (r : Refusal) → first_cause column_rules (columns_in bytes) ≡ Some cause → refusal_at 0 cause ≡ r → IsQueryRefusal n bytes r
unfolding IsQueryRefusal
columns_refused n bytes cause r broken e =
    let first : first_cause file_rules bytes ≡ Some cause = file_cause bytes ∙ rw broken refl in
    rw (← e) (refl, refused_whole file_rules bytes _ _ _ cause first)

pub rows_refused : (n : Network) (bytes : List ℕ) (count : ℕ) (r : Refusal) → first_cause column_rules (columns_in bytes) ≡ None → count ≡ length (rows_of bytes) → 100000 < length (rows_of bytes)
    → refusal_at 0 (cause.Limit count) ≡ r → IsQueryRefusal n bytes r
unfolding IsQueryRefusal rows_broken
rows_refused n bytes count r holds is many e =
    let above : nat_le (length (rows_of bytes)) 100000 ≡ false = grind arith in
    let first : first_cause file_rules bytes ≡ Some (cause.Limit count) = file_cause bytes ∙ rw (holds, above, is) refl in
    rw (← e) (refl, refused_whole file_rules bytes _ _ _ _ first)

file_holds : (bytes : List ℕ) → first_cause column_rules (columns_in bytes) ≡ None → length (rows_of bytes) ≤ 100000 → first_cause file_rules bytes ≡ None
unfolding rows_broken
file_holds bytes holds few =
    let within : nat_le (length (rows_of bytes)) 100000 ≡ true = grind arith in
    file_cause bytes ∙ rw (holds, within) refl

pub row_refused : (n : Network) (bytes : List ℕ) (r : Refusal) → first_cause column_rules (columns_in bytes) ≡ None → length (rows_of bytes) ≤ 100000
    → (r.file ≡ file.Queries) × IsFirstRefusal (query_rules n (columns_in bytes)) (row_at (rows_of bytes)) (length (rows_of bytes)) r.row r.cause
    → IsQueryRefusal n bytes r
unfolding IsQueryRefusal
row_refused n bytes r holds few refused = (refused.0, refused_row file_rules bytes _ _ _ _ _ (file_holds bytes holds few) refused.1)

pub file_accepted : (n : Network) (bytes : List ℕ) → first_cause column_rules (columns_in bytes) ≡ None → length (rows_of bytes) ≤ 100000
    → Accepted (query_rules n (columns_in bytes)) (row_at (rows_of bytes)) (length (rows_of bytes)) → IsQueryTable n bytes
unfolding IsQueryTable
file_accepted n bytes holds few rows = (each_holds file_rules bytes (file_holds bytes holds few), rows)

-- a file is not both accepted and refused, and it has one first refusal
pub not_both : (n : Network) (bytes : List ℕ) (r : Refusal) → IsQueryTable n bytes → IsQueryRefusal n bytes r → ⊥
unfolding IsQueryTable IsQueryRefusal
not_both n bytes r table refused = file_not_both file_rules bytes _ _ _ r.row r.cause table refused.1

pub one_refusal : (n : Network) (bytes : List ℕ) (r s : Refusal) → IsQueryRefusal n bytes r → IsQueryRefusal n bytes s → r ≡ s
unfolding IsQueryRefusal
one_refusal n bytes r s a b =
    let same = one_file_refusal file_rules bytes _ _ _ r.row s.row r.cause s.cause a.1 b.1 in
    rw (a.0, b.0, same.0, same.1) refl
