use Rattle.std.proofs.Common.{◌+◌, [], length, subst, sym, ap, arith}
use Rattle.move_model.specs.declared.query.Query.{Query}
use Rattle.city_maker.specs.Asked.{IsAsked}
use Rattle.city_summary.specs.declared.totals.Counts.{Counts}
use Rattle.city_summary.specs.Summary.{HasSums}
use Rattle.answer_rows.specs.Counted.{IsSearchedOver, IsOpenedOver}
use Rattle.answer_rows.specs.Counted.CountsEach.{none}
use Rattle.city_summary.specs.Room.{HasRoom, limit_of}
use Rattle.city_summary.proofs.Sums.{sums_none, sums_at, parts_at}
use Rattle.answer_rows.proofs.CountLemmas.{one_counted}
use Rattle.city_summary.proofs.sum.counts_of_all.Goals as goal

pub counts_of-requires-clause-asked : goal.counts_of-requires-clause-asked
counts_of-requires-clause-asked g c =
    subst (IsAsked c.args.compiled.now.network) (sym c.query-item.is) (c.requires.asked c.loop-query.query-index c.query-item.result c.loop-query-test.true)

pub counts_of-requires-clause-room : goal.counts_of-requires-clause-room
counts_of-requires-clause-room g c =
    c.loop-query.invariant.room (limit_of c.query-item.result)
    (subst (λ (query : Query). HasRoom c.args.compiled.now (limit_of query) c.args.works.now) (sym c.query-item.is)
    (c.requires.room c.loop-query.query-index c.query-item.result c.loop-query-test.true))

pub loop-query-init : goal.loop-query-init
loop-query-init g c =
    let is = c.none-sums.ensures in record {
      sums = subst (HasSums c.args.compiled.now.network []) (sym is) (sums_none c.args.compiled.now.network);
      room = λ most room. room;
      pairs = omega (arith, ap (λ (k : Counts). k.pairs) is);
      spans = omega (arith, ap (λ (k : Counts). k.spans) is);
      arrivals = omega (arith, ap (λ (k : Counts). k.arrivals) is);
      searches = none;
      opens = none;
    }

pub loop-query-preserved : goal.loop-query-preserved
loop-query-preserved g c =
    let v = c.args.compiled.now in
    let i = c.loop-query.query-index in
    let query = c.query-item.result in
    let one = c.in_ok-counts_of.field-0 in
    let few = c.in_ok-counts_of.ensures.few in
    let so_far = c.loop-query.invariant in
    let is = c.plus-sums.ensures in
    let parts = parts_at c.loop-query.sums one c.plus-sums.result is in record {
      sums = sums_at v.network c.args.queries.now i c.loop-query.sums query one _ c.loop-query-test.true c.query-item.is so_far.sums c.in_ok-counts_of.ensures.counts is;
      room = λ most room. c.counts_of.ensures.room most (so_far.room most room);
      pairs = omega (arith, parts.0, few.pairs, so_far.pairs);
      spans = omega (arith, parts.1, few.spans, so_far.spans);
      arrivals = omega (arith, parts.2, few.arrivals, so_far.arrivals);
      searches = one_counted (IsSearchedOver v.network) c.args.queries.now i query _ _ _ c.loop-query-test.true c.query-item.is so_far.searches c.counts_of.ensures.searches;
      opens = one_counted (IsOpenedOver v.network (length v.table.routes)) c.args.queries.now i query _ _ _ c.loop-query-test.true c.query-item.is so_far.opens c.counts_of.ensures.opens;
    }

pub returns-in_err-counts_of-clause-searches : goal.returns-in_err-counts_of-clause-searches
returns-in_err-counts_of-clause-searches g c = (
  c.loop-query.query-index + 1,
  one_counted (IsSearchedOver c.args.compiled.now.network) c.args.queries.now c.loop-query.query-index c.query-item.result _ _ _ c.loop-query-test.true
      c.query-item.is c.loop-query.invariant.searches c.counts_of.ensures.searches,
)

pub returns-in_err-counts_of-clause-opens : goal.returns-in_err-counts_of-clause-opens
returns-in_err-counts_of-clause-opens g c = (
  c.loop-query.query-index + 1,
  one_counted (IsOpenedOver c.args.compiled.now.network (length c.args.compiled.now.table.routes)) c.args.queries.now c.loop-query.query-index
      c.query-item.result _ _ _ c.loop-query-test.true c.query-item.is c.loop-query.invariant.opens c.counts_of.ensures.opens,
)

pub returns-clause-searches : goal.returns-clause-searches
returns-clause-searches g c = (c.loop-query.query-index, c.loop-query.invariant.searches)

pub returns-clause-opens : goal.returns-clause-opens
returns-clause-opens g c = (c.loop-query.query-index, c.loop-query.invariant.opens)
