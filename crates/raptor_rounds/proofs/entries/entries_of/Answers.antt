use Rattle.std.proofs.Common.{arith, rules}
use Rattle.raptor_rounds.proofs.SetLemmas.{read_is}
use Rattle.raptor_rounds.proofs.EntriesLemmas.{place_of_entry, contains_range}
use Rattle.raptor_rounds.proofs.entries.entries_of.Goals as goal
use Rattle.raptor_rounds.proofs.entries.entries_of.Goals.{else-first-end-via-then-first-end+else-end-list, else-first-end-via-else-first-end}

pub returns-then-end-list-clause-all : goal.returns-then-end-list-clause-all
returns-then-end-list-clause-all c e has same =
    let place = place_of_entry c.args.list.now c.args.spans.now c.args.from e c.requires.spans has same in
    let end_is = read_is c.args.spans.now.ends.items c.args.from.0 c.index-end.result.now (search rules) c.index-end.ensures in
    contains_range c.args.list.now c.get-first.result c.index-end.result.now place.at e (omega (arith, place.first, c.get-first.ensures)) (omega (arith, place.end, end_is))
    c.if-end-list.true place.is

pub returns-else-first-end-clause-all : goal.returns-else-first-end-clause-all
returns-else-first-end-clause-all c e has same =
    let place = place_of_entry c.args.list.now c.args.spans.now c.args.from e c.requires.spans has same in
    let end_is = read_is c.args.spans.now.ends.items c.args.from.0 c.index-end.result.now (search rules) c.index-end.ensures in
    elim c.else-first-end.branch [
      | else-first-end-via-then-first-end+else-end-list w ↦ absurd (omega (arith, w.if-end-list.false, end_is, place.within))
      | else-first-end-via-else-first-end w ↦ absurd (omega (arith, w.if-first-end.false, c.get-first.ensures, end_is, place.first, place.end))
    ]
