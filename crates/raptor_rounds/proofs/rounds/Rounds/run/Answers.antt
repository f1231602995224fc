use Rattle.std.proofs.Common.{◌+◌, ◌*◌, ◌++◌, List, None, length, map, take, drop, get_or, subst, sym, refl, arith, rules}
use Rattle.raptor_rounds.specs.declared.labels.Step.{Step}
use Rattle.raptor_rounds.specs.declared.labels.Best.{Best}
use Rattle.raptor_rounds.specs.Ways.{Query}
use Rattle.raptor_rounds.specs.Answers.{IsAnswer, answer_of}
use Rattle.raptor_rounds.proofs.ToldLemmas.{answers_are, put_back}
use Rattle.raptor_rounds.proofs.LaterLemmas.{arrives_in_range}
use Rattle.raptor_rounds.proofs.rounds.Rounds.run.Goals as goal

pub returns-clause-answers : goal.returns-clause-answers
returns-clause-answers g c n is k few =
    let q : Query = record { network = n; first = c.args.first.now; last = c.args.last.now; list = c.args.shortcuts.now; depart = c.args.depart } in
    let slots = c.run_rounds.new.slots in
    let bests = c.run_rounds.new.bests in
    let limit = c.args.limit in
    let slots_back = put_back c.self.inside.slots.len slots c.self.inside.slots.items (search rules) in
    let bests_back = put_back c.self.inside.bests.len bests c.self.inside.bests.items (search rules) in
    let core = answers_are q slots (limit * c.args.table.now.stops) limit bests (omega arith) (search rules)
    (arrives_in_range q c.args.table.now is c.routes-routes.ensures.whole c.requires.bound)
    (c.run_rounds.ensures.best q (record { table_of = is; first_is = refl; last_is = refl; list_is = sym c.as_slice-list.ensures; depart_is = refl })) k few in
    subst (λ (s : List Step). IsAnswer n c.args.first.now c.args.last.now c.args.shortcuts.now c.args.depart k
    (get_or (map (answer_of s) (take (limit + 1) (take c.self.inside.bests.len (bests ++ drop (length bests) c.self.inside.bests.items)))) k None)) (sym slots_back)
    (subst (λ (b : List Best). IsAnswer n c.args.first.now c.args.last.now c.args.shortcuts.now c.args.depart k
    (get_or (map (answer_of slots) (take (limit + 1) b)) k None)) (sym bests_back) core)
