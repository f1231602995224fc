use Rattle.std.proofs.Common.{◌≡◌, ◌∙◌, ap, sym}
use Rattle.move_model.specs.declared.refusal.Cause.TheVariants as cause
use Rattle.refusals.specs.Refusal.{first_cause}
use Rattle.tables.proofs.LineEnds.{above-Some, above-None}
use Rattle.stop_places.specs.Rules.{column_rules, columns_of}
use Rattle.stop_places.specs.Table.{columns_in}
use Rattle.stop_places.proofs.Files.{columns_refused, rows_refused, same_refusal}
use Rattle.stop_places.proofs.Outcome as outcome
use Rattle.stop_places.proofs.Outcome.{Opened}
use Rattle.stop_places.proofs.table.read_table.Goals as goal

pub returns-in-Err-clause-refused : goal.returns-in-Err-clause-refused
returns-in-Err-clause-refused c = λ r e.
    let columns : c.find_columns-columns.result ≡ columns_in c.args.bytes.now = c.find_columns-columns.ensures ∙ ap columns_of c.in-Ok.ensures.header in
    columns_refused c.args.stops.now c.args.nodes c.args.bytes.now c.in-Err.cause r (ap (first_cause column_rules) (sym columns) ∙ c.in-Err.ensures) (same_refusal c.refused.result 0 c.in-Err.cause r c.refused.ensures (cc e))

pub returns-in-Some-clause-refused : goal.returns-in-Some-clause-refused
returns-in-Some-clause-refused c = λ r e.
    let columns : c.find_columns-columns.result ≡ columns_in c.args.bytes.now = c.find_columns-columns.ensures ∙ ap columns_of c.in-Ok.ensures.header in
    let many = above-Some 50000000 _ _ (sym c.in-Some.is ∙ c.in-Ok-rows_above.ensures) in
    rows_refused c.args.stops.now c.args.nodes c.args.bytes.now c.in-Some.count r (ap (first_cause column_rules) (sym columns) ∙ c.in_default-require_columns.ensures.0) many.0 many.1
    (same_refusal c.refused-in-Some.result 0 (cause.Limit c.in-Some.count) r c.refused-in-Some.ensures (cc e))

opened : (c : goal.After-drop-row-inside-3) → Opened c.args.bytes.now c.find_columns-columns.result c.in-Ok.table.rows
opened c =
    let columns : c.find_columns-columns.result ≡ columns_in c.args.bytes.now = c.find_columns-columns.ensures ∙ ap columns_of c.in-Ok.ensures.header in
    record {
      columns_are = columns;
      rows_are = c.in-Ok.ensures.rows;
      there = ap (first_cause column_rules) (sym columns) ∙ c.in_default-require_columns.ensures.0;
      few = above-None _ _ (sym c.in_default-above.is ∙ c.in-Ok-rows_above.ensures);
    }

pub returns-clause-accepted : goal.returns-clause-accepted
returns-clause-accepted c = rw c.in-Ok-stop_ids.ensures at (outcome.accepted c.in-Ok-stop_ids.ids c.args.nodes c.args.bytes.now _ _ c.read_rows.result (opened c) c.read_rows.ensures.accepted)

pub returns-clause-given : goal.returns-clause-given
returns-clause-given c = outcome.given c.args.bytes.now _ _ c.read_rows.result (opened c) c.read_rows.ensures.given

pub returns-clause-refused : goal.returns-clause-refused
returns-clause-refused c = λ r e. rw c.in-Ok-stop_ids.ensures at (outcome.refused c.in-Ok-stop_ids.ids c.args.nodes c.args.bytes.now _ _ r (opened c) (c.read_rows.ensures.refused r e))
