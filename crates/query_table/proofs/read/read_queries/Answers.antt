use Rattle.std.proofs.Common.{◌≡◌, ◌≤◌, ◌∙◌, length, ap, sym, arith}
use Rattle.move_model.specs.declared.refusal.Cause.TheVariants as cause
use Rattle.refusals.specs.Refusal.{first_cause}
use Rattle.tables.proofs.LineEnds.{above-Some, above-None}
use Rattle.query_table.specs.Rules.{column_rules, columns_of}
use Rattle.query_table.specs.Queries.{columns_in}
use Rattle.query_table.proofs.Files.{columns_refused, rows_refused, same_refusal}
use Rattle.query_table.proofs.Outcome as outcome
use Rattle.query_table.proofs.Outcome.{Opened}
use Rattle.query_table.proofs.read.read_queries.Goals as goal

pub returns-in-Err-clause-refused : goal.returns-in-Err-clause-refused
returns-in-Err-clause-refused c = λ r e.
    let columns : c.find_columns-columns.result ≡ columns_in c.args.bytes.now = c.find_columns-columns.ensures ∙ ap columns_of c.in-Ok.ensures.header in
    columns_refused c.args.network.now c.args.bytes.now c.in-Err.cause r (ap (first_cause column_rules) (sym columns) ∙ c.in-Err.ensures) (same_refusal c.refused.result 0 c.in-Err.cause r c.refused.ensures (cc e))

pub returns-in-Some-clause-refused : goal.returns-in-Some-clause-refused
returns-in-Some-clause-refused c = λ r e.
    let columns : c.find_columns-columns.result ≡ columns_in c.args.bytes.now = c.find_columns-columns.ensures ∙ ap columns_of c.in-Ok.ensures.header in
    let many = above-Some 100000 _ _ (sym c.in-Some.is ∙ c.in-Ok-rows_above.ensures) in
    rows_refused c.args.network.now c.args.bytes.now c.in-Some.count r (ap (first_cause column_rules) (sym columns) ∙ c.in_default-require_columns.ensures.0) many.0 many.1
    (same_refusal c.refused-in-Some.result 0 (cause.Limit c.in-Some.count) r c.refused-in-Some.ensures (cc e))

opened : (c : goal.After-drop-row-inside-3) → Opened c.args.bytes.now c.find_columns-columns.result c.in-Ok.table.rows
opened c =
    let columns : c.find_columns-columns.result ≡ columns_in c.args.bytes.now = c.find_columns-columns.ensures ∙ ap columns_of c.in-Ok.ensures.header in
    record {
      columns_are = columns;
      rows_are = c.in-Ok.ensures.rows;
      there = ap (first_cause column_rules) (sym columns) ∙ c.in_default-require_columns.ensures.0;
      few = above-None _ _ (sym c.in_default-above.is ∙ c.in-Ok-rows_above.ensures);
    }

pub returns-clause-accepted : goal.returns-clause-accepted
returns-clause-accepted c = outcome.accepted c.args.network.now _ _ _ c.read_rows.result (opened c) c.read_rows.ensures.accepted

pub returns-clause-queries : goal.returns-clause-queries
returns-clause-queries c = outcome.queries c.args.network.now _ _ _ c.read_rows.result (opened c) c.read_rows.ensures.queries

pub returns-clause-refused : goal.returns-clause-refused
returns-clause-refused c = λ r e. outcome.refused c.args.network.now _ _ _ r (opened c) (c.read_rows.ensures.refused r e)

pub returns-clause-few : goal.returns-clause-few
returns-clause-few c = outcome.few c.args.network.now _ _ _ c.read_rows.result (opened c) c.read_rows.ensures.queries

pub returns-clause-sound : goal.returns-clause-sound
returns-clause-sound c = λ stand. outcome.sound c.args.network.now c.args.bytes.now c.read_rows.result stand (returns-clause-accepted c) (returns-clause-queries c)
