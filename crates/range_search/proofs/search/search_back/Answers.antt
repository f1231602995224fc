use Rattle.range_search.proofs.SearchLemmas.{marked_between}
use Rattle.range_search.proofs.search.search_back.Goals as goal

pub returns-clause-closed : goal.returns-clause-closed
returns-clause-closed g c ds next listed closed =
    c.rounds.ensures.closed
    (marked_between c.args.table.now c.args.first.now c.args.last.now c.args.list.now c.args.depart c.args.stops.now ds next c.args.levels.now listed closed
    c.mark_stops.new.set c.mark_stops.ensures.marks)
