use Rattle.std.proofs.Common.{◌≤◌, ◌+◌, arith, refl}
use Rattle.std.proofs.lemmas.List.Elements.{All-push}
use Rattle.refusals.proofs.RefusalLemmas.{first_refusal, accepted_more}
use Rattle.tables.proofs.RowLemmas.{next_read, last_read}
use Rattle.stop_places.specs.Rules.{row_rules, row_behind}
use Rattle.stop_places.proofs.Files.{same_refusal}
use Rattle.stop_places.proofs.GivenLemmas.{behind_is, given_more, given_all}
use Rattle.stop_places.proofs.table.read_rows.Goals as goal

pub returns-then-not-found-clause-accepted : goal.returns-then-not-found-clause-accepted
returns-then-not-found-clause-accepted c = λ i lt.
    c.rows.invariant.accepted i (omega (arith, last_read c.in-Ok.found c.args.rows.now _ _ c.rows.number _ c.if-not-found.true c.rows.invariant.left c.in-Ok.ensures.reads))

pub returns-then-not-found-clause-given : goal.returns-then-not-found-clause-given
returns-then-not-found-clause-given c =
    given_all c.args.columns.now c.args.rows.now c.rows.number c.rows.given
    (last_read c.in-Ok.found c.args.rows.now _ _ c.rows.number _ c.if-not-found.true c.rows.invariant.left c.in-Ok.ensures.reads) c.rows.invariant.given

pub returns-in-Err-clause-refused : goal.returns-in-Err-clause-refused
returns-in-Err-clause-refused c = λ r e.
    let here = next_read c.in-Ok.found c.args.rows.now _ _ c.rows.number _ c.if-not-found.false c.rows.invariant.left c.in-Ok.ensures.reads in
    let same = same_refusal c.refused.result (c.rows.number + 1) c.in-Err.cause r c.refused.ensures (cc e) in
    let behind = behind_is c.args.columns.now c.args.rows.now c.rows.number c.rows.given _ c.rows.invariant.given here.1 in
    rw (← same) (refl, first_refusal (row_rules c.args.ids.now c.args.nodes c.args.columns.now) (row_behind c.args.columns.now c.args.rows.now) _ c.rows.number _ _ _ _ here.0 c.rows.invariant.accepted behind c.in-Err.ensures.rules refl refl)

pub rows-preserved : goal.rows-preserved
rows-preserved c =
    let here = next_read c.in-Ok.found c.args.rows.now _ _ c.rows.number _ c.if-not-found.false c.rows.invariant.left c.in-Ok.ensures.reads in
    let behind = behind_is c.args.columns.now c.args.rows.now c.rows.number c.rows.given _ c.rows.invariant.given here.1 in
    record {
      left = here.2;
      within = omega (arith, here.0);
      accepted = accepted_more (row_rules c.args.ids.now c.args.nodes c.args.columns.now) (row_behind c.args.columns.now c.args.rows.now) c.rows.number _ c.rows.invariant.accepted behind c.in-Ok-test_row.ensures.rules.0;
      given = given_more c.args.columns.now c.args.rows.now c.rows.number c.rows.given c.push.new.self _ _ _ c.rows.invariant.given here.0 here.1 c.cell.ensures c.in-Ok-test_row.ensures.rules.1 c.in-Ok-push.ensures.names c.in-Ok-push.ensures.nodes;
      vertices = rw c.in-Ok-push.ensures.nodes (All-push (λ node. (1 ≤ node) × (node ≤ c.args.nodes)) c.rows.given.nodes c.in-Ok-test_row.node c.rows.invariant.vertices c.in-Ok-test_row.ensures.vertex);
    }
