use Rattle.std.proofs.Common.{◌∙◌, arith}
use Rattle.plain_search.proofs.LevelLaws.{put_back, next_lent}
use Rattle.plain_search.proofs.rounds.next_row.Goals as goal

pub returns-clause-level : goal.returns-clause-level
returns-clause-level c =
    let rode = c.in_ok-ride_on.ensures in
    let done = c.in_ok-walk_on.ensures in
    next_lent c.args.network.now c.args.before.now c.as_slice-2.result.now c.as_mut_slice.result.now c.ride_on.new.row c.as_mut_slice-2.result.now c.walk_on.new.row
    c.from_vec.result c.as_slice-3.result.now
    c.as_slice-2.ensures (c.as_mut_slice.ensures.value ∙ c.in_ok-row.ensures ∙ c.as_slice.ensures)
    (c.as_mut_slice-2.ensures.value ∙ put_back c.in_ok-row.row.len c.ride_on.new.row c.in_ok-row.row.items (omega (arith, rode.rides_on.one_each, c.as_mut_slice.ensures.len)))
    c.as_slice-3.ensures
    (c.from_vec.ensures ∙ put_back c.in_ok-row.row.len c.walk_on.new.row _ (omega (arith, done.walks_on.one_each, c.as_mut_slice-2.ensures.len)))
    rode.rides_on rode.ridden done.whole done.walks_on done.walked
