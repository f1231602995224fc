use Rattle.std.proofs.Common.{ℕ, ◌*◌, ◌≤◌, ◌^◌, take, length}
use Rattle.city_summary.specs.Summary.{HasSums}
use Rattle.answer_rows.specs.Counted.{IsSearchedOver, IsOpenedOver, CountsEach}
use Rattle.city_summary.specs.Room.{HasRoom}
use Rattle.city_summary.proofs.sum.counts_of_all.Given as goal

abbrev pub invariant-loop-query : goal.invariant-loop-query
invariant-loop-query g l = record {
  sums : HasSums l.compiled.network (take l.query-index l.queries) l.sums;
  room : (most : ℕ) → HasRoom l.compiled most l.fn.works → HasRoom l.compiled most l.works;
  pairs : l.sums.pairs ≤ l.query-index * 2 ^ 16;
  spans : l.sums.spans ≤ l.query-index * 2 ^ 16;
  arrivals : l.sums.arrivals ≤ l.query-index * 2 ^ 58;
  searches : CountsEach (IsSearchedOver l.compiled.network) (take l.query-index l.queries) l.fn.searches l.searches;
  opens : CountsEach (IsOpenedOver l.compiled.network (length l.compiled.table.routes)) (take l.query-index l.queries) l.fn.opens l.opens;
}
