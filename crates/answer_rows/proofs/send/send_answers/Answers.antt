use Rattle.std.proofs.Common.{◌≡◌, ◌+◌, [], refl, sym, subst, arith, append-nil}
use Rattle.std.proofs.lemmas.Result.{err_from_is_err_and}
use Rattle.query_table.specs.Queries.{IsQuery}
use Rattle.answer_rows.specs.Counted.{IsSearchedFor, IsOpenedFor}
use Rattle.answer_rows.specs.Counted.CountsEach.{none as no_query}
use Rattle.answer_rows.specs.Printed.AreRowsFrom.{none as no_rows}
use Rattle.answer_rows.specs.Room.{HasRoom}
use Rattle.answer_rows.proofs.SentLemmas.{one_more, part_more}
use Rattle.answer_rows.proofs.CountLemmas.{one_counted}
use Rattle.answer_rows.proofs.send.send_answers.Goals as goal

pub send_answer-requires-clause-query : goal.send_answer-requires-clause-query
send_answer-requires-clause-query g c =
    subst (IsQuery c.args.compiled.now.network) (sym c.query-item.is) (c.requires.queries c.loop-query.query-index c.query-item.result c.loop-query-test.true)

pub send_answer-requires-clause-room : goal.send_answer-requires-clause-room
send_answer-requires-clause-room g c =
    c.loop-query.invariant.room c.query-item.result
    (subst (HasRoom c.args.compiled.now c.args.works.now) (sym c.query-item.is) (c.requires.room c.loop-query.query-index c.query-item.result c.loop-query-test.true))

pub loop-query-init : goal.loop-query-init
loop-query-init g c = record {
  count = refl;
  sent = λ tells. ([], no_rows, sym (append-nil _));
  faults = omega arith;
  wants = omega arith;
  room = λ q is. is;
  searches = no_query;
  opens = no_query;
}

pub loop-query-preserved : goal.loop-query-preserved
loop-query-preserved g c =
    let v = c.args.compiled.now in
    let i = c.loop-query.query-index in
    let so_far = c.loop-query.invariant in
    let one = c.in_ok-send_answer.ensures in
    record {
      count = omega arith;
      sent = λ tells.
          let at_number : c.loop-query.number + 1 ≡ i + 1 = omega (arith, so_far.count) in
          one_more v c.args.queries.now i (c.loop-query.number + 1) c.query-item.result _ _ _ c.loop-query-test.true c.query-item.is at_number (so_far.sent tells) (one.ok tells);
      faults = omega (arith, so_far.faults, c.send_answer.ensures.counts);
      wants = omega (arith, so_far.wants, c.send_answer.ensures.counts);
      room = λ q is. c.send_answer.ensures.room q (so_far.room q is);
      searches = one_counted (IsSearchedFor v) c.args.queries.now i c.query-item.result _ _ _ c.loop-query-test.true c.query-item.is so_far.searches c.send_answer.ensures.searches;
      opens = one_counted (IsOpenedFor v) c.args.queries.now i c.query-item.result _ _ _ c.loop-query-test.true c.query-item.is so_far.opens c.send_answer.ensures.opens;
    }

pub returns-in_err-send_answer-clause-err : goal.returns-in_err-send_answer-clause-err
returns-in_err-send_answer-clause-err g c = λ tells.
    let p = err_from_is_err_and c.from_residual.result c.from_residual.ensures.1 in
    let at_number : c.loop-query.number + 1 ≡ c.loop-query.query-index + 1 = omega (arith, c.loop-query.invariant.count) in
    rw p.1
    (part_more c.args.compiled.now c.args.queries.now c.loop-query.query-index (c.loop-query.number + 1) c.query-item.result _ _ _ c.loop-query-test.true c.query-item.is at_number
    (c.loop-query.invariant.sent tells) (c.in_err-send_answer.ensures.err tells))

pub returns-in_err-send_answer-clause-searches : goal.returns-in_err-send_answer-clause-searches
returns-in_err-send_answer-clause-searches g c = (
  c.loop-query.query-index + 1,
  one_counted (IsSearchedFor c.args.compiled.now) c.args.queries.now c.loop-query.query-index c.query-item.result _ _ _ c.loop-query-test.true c.query-item.is
      c.loop-query.invariant.searches c.send_answer.ensures.searches,
)

pub returns-in_err-send_answer-clause-opens : goal.returns-in_err-send_answer-clause-opens
returns-in_err-send_answer-clause-opens g c = (
  c.loop-query.query-index + 1,
  one_counted (IsOpenedFor c.args.compiled.now) c.args.queries.now c.loop-query.query-index c.query-item.result _ _ _ c.loop-query-test.true c.query-item.is
      c.loop-query.invariant.opens c.send_answer.ensures.opens,
)
