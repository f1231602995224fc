use Rattle.std.proofs.Common.{map, List, ◌∙◌, ap}
use Rattle.std.proofs.lemmas.List.{take_all}
use Rattle.plain_search.specs.Row.{Ways, second_of}
use Rattle.plain_search.proofs.JourneyLaws.{earliest_hold}
use Rattle.plain_search.proofs.rounds.earliest.Goals as goal

pub returns : goal.returns
returns c =
    λ ok numbered.
    earliest_hold c.args.network.now ok c.args.from c.args.depart c.in_ok-rows.rows (c.in_ok-rows.ensures.table ok numbered) c.args.limit c.loop-row.all
    c.in_ok-rows.ensures.count
    (c.loop-row.invariant
    ∙ ap (λ (rows : List Ways). map (λ row. map second_of row) rows)
    (take_all c.loop-row.row-index c.as_slice-row-items.result.now c.loop-row-test.false ∙ c.as_slice-row-items.ensures))
