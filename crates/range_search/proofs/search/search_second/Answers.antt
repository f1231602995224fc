use Rattle.std.proofs.Common.{refl}
use Rattle.range_search.specs.Search.{HasDone, HasOpened}
use Rattle.range_search.proofs.SearchLemmas.{quiet_closed, opened_one}
use Rattle.range_search.proofs.search.search_second.Goals as goal

pub returns-then-is_next-clause-done : goal.returns-then-is_next-clause-done
returns-then-is_next-clause-done g c = HasDone.one (c.is_next.ensures.yes c.if-is_next.true) refl

pub returns-then-is_next-clause-counted : goal.returns-then-is_next-clause-counted
returns-then-is_next-clause-counted g c = opened_one c.args.next _ _ c.args.opens.now c.search_back.new.opens c.begins_group.result c.begins_group.ensures.yes c.begins_group.ensures.no c.search_back.ensures.counted

pub returns-clause-done : goal.returns-clause-done
returns-clause-done g c = HasDone.none (c.is_next.ensures.no c.if-is_next.false) refl

pub returns-clause-closed : goal.returns-clause-closed
returns-clause-closed g c listed closed =
    quiet_closed c.args.table.now c.args.first.now c.args.last.now c.args.list.now c.args.depart c.args.stops.now c.args.departures.now c.args.next c.args.levels.now
    listed closed (c.is_next.ensures.no c.if-is_next.false)

pub returns-clause-counted : goal.returns-clause-counted
returns-clause-counted g c = HasOpened.none refl refl refl
