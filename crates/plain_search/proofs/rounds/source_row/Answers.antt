use Rattle.std.proofs.Common.{rules, arith}
use Rattle.plain_search.proofs.LevelLaws.{source_one, source_whole}
use Rattle.plain_search.proofs.rounds.source_row.Goals as goal

pub returns-clause-whole : goal.returns-clause-whole
returns-clause-whole c =
    source_whole c.args.network.now c.args.from c.args.depart c.from.result c.in_ok-row.row.items c.in_ok-walk.walk c.in_ok-row.ensures.none
    (record { from_one = omega (arith, c.if-from-lt1.false); to_nodes = omega (arith, c.if-network-from.false) })
    c.from.ensures (search rules) c.in_ok-row.ensures.few (omega arith)

pub returns-clause-source : goal.returns-clause-source
returns-clause-source c =
    source_one c.args.network.now c.args.from c.args.depart c.from.result c.in_ok-row.row.items c.in_ok-walk.walk c.in_ok-row.ensures.none
    (record { from_one = omega (arith, c.if-from-lt1.false); to_nodes = omega (arith, c.if-network-from.false) })
    c.from.ensures (search rules)
