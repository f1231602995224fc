use Rattle.std.proofs.Common.{◌≡◌, ◌≤◌, take}
use Rattle.move_model.specs.declared.query.Query.{Query}
use Rattle.answer_rows.specs.Counted.{CountsEach, IsSearchedFor, IsOpenedFor}
use Rattle.answer_rows.specs.Room.{HasRoom}
use Rattle.answer_rows.specs.Sent.{SendsQueries}
use Rattle.answer_rows.proofs.send.send_answers.Given as goal

abbrev pub invariant-loop-query : goal.invariant-loop-query
invariant-loop-query g l = record {
  count : l.number ≡ l.query-index;
  sent : g.S.Sink.tells → SendsQueries l.compiled (take l.query-index l.queries) (g.S.Sink.sent l.fn.out) (g.S.Sink.sent l.out);
  faults : g.S.Sink.faults l.fn.out ≤ g.S.Sink.faults l.out;
  wants : g.S.Sink.wants l.fn.out ≤ g.S.Sink.wants l.out;
  room : (q : Query) → HasRoom l.compiled l.fn.works q → HasRoom l.compiled l.works q;
  searches : CountsEach (IsSearchedFor l.compiled) (take l.query-index l.queries) l.fn.searches l.searches;
  opens : CountsEach (IsOpenedFor l.compiled) (take l.query-index l.queries) l.fn.opens l.opens;
}
