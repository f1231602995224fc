use Rattle.std.proofs.Common.{◌≡◌, ◌+◌, true, false, arith, rules, refl, sym, ◌∙◌}
use Rattle.csv.specs.Records.{fields_of}
use Rattle.refusals.proofs.RefusalLemmas.{first_refusal, accepted_more}
use Rattle.tables.proofs.RowLemmas.{next_read, last_read}
use Rattle.tables.specs.Table.{row_at}
use Rattle.query_table.specs.Rules.{query_rules}
use Rattle.query_table.proofs.Files.{same_refusal}
use Rattle.query_table.proofs.RowValues.{queries_more, on_ok}
use Rattle.query_table.proofs.read.read_rows.Goals as goal

pub returns-then-not-found-clause-accepted : goal.returns-then-not-found-clause-accepted
returns-then-not-found-clause-accepted c = λ i lt.
    c.rows.invariant.accepted i (omega (arith, last_read c.in-Ok.found c.args.rows.now _ _ c.rows.number _ c.if-not-found.true c.rows.invariant.left c.in-Ok.ensures.reads))

pub returns-in-Err-clause-refused : goal.returns-in-Err-clause-refused
returns-in-Err-clause-refused c = λ r e.
    let here = next_read c.in-Ok.found c.args.rows.now _ _ c.rows.number _ c.if-not-found.false c.rows.invariant.left c.in-Ok.ensures.reads in
    let same = same_refusal c.refused.result (c.rows.number + 1) c.in-Err.cause r c.refused.ensures (cc e) in
    rw (← same) (refl, first_refusal (query_rules c.args.network.now c.args.columns.now) (row_at c.args.rows.now) _ c.rows.number _ _ _ _ here.0 c.rows.invariant.accepted here.1 c.in-Err.ensures refl refl)

pub rows-preserved : goal.rows-preserved
rows-preserved c =
    let here = next_read c.in-Ok.found c.args.rows.now _ _ c.rows.number _ c.if-not-found.false c.rows.invariant.left c.in-Ok.ensures.reads in
    record {
      left = here.2;
      within = omega (arith, here.0);
      accepted = accepted_more (query_rules c.args.network.now c.args.columns.now) (row_at c.args.rows.now) c.rows.number _ c.rows.invariant.accepted here.1 c.in-Ok-test_row.ensures.0;
      queries = queries_more _ _ _ _ _ _ _ _ _ here.0 here.1 c.in-Ok-test_row.ensures.1 c.in-Ok-query.ensures c.rows.invariant.queries (on_ok c.push.result _ c.if-is_err.ensures.value c.push.ensures.ok);
    }
