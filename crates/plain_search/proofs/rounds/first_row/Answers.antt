use Rattle.std.proofs.Common.{◌∙◌, arith}
use Rattle.plain_search.proofs.LevelLaws.{put_back, first_lent}
use Rattle.plain_search.proofs.rounds.first_row.Goals as goal

pub returns-clause-level : goal.returns-clause-level
returns-clause-level c =
    let done = c.in_ok-walk_on.ensures in
    first_lent c.args.network.now c.args.from c.args.depart c.in_ok-row.row.items c.as_mut_slice.result.now c.walk_on.new.row c.from_vec.result c.as_slice.result.now
    c.as_mut_slice.ensures.value c.as_slice.ensures
    (c.from_vec.ensures ∙ put_back c.in_ok-row.row.len c.walk_on.new.row c.in_ok-row.row.items (omega (arith, done.walks_on.one_each, c.as_mut_slice.ensures.len)))
    c.in_ok-row.ensures.source done.whole done.walks_on done.walked
