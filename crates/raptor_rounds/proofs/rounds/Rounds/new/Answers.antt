use Rattle.std.proofs.Common.{◌≡◌, ◌+◌, None, [], ◌∷◌, length, map, take, ap, ◌∙◌, arith, rules}
use Rattle.std.specs.Prelude.{replicate}
use Rattle.std.proofs.lemmas.List.{length-replicate}
use Rattle.raptor_rounds.specs.declared.labels.Best.{Best}
use Rattle.raptor_rounds.specs.Answers.{answer_of}
use Rattle.raptor_rounds.proofs.ToldLemmas.{none_first, kept_same}
use Rattle.raptor_rounds.proofs.rounds.Rounds.new.Goals as goal

pub returns : goal.returns
returns c =
    let none : Best = record { second = 18446744073709551615; step = record { ride = record { trip = record { 0 = 0 }; board = 0; alight = 0 }; by = 0 } } in
    let slots = c.in_ok-slots.slots.items in
    let bests = c.in_ok-bests.bests.items in
    let are : bests ≡ replicate (c.args.limit + 1) none = search rules in
    let many : length c.in_ok-starts.starts ≡ length c.args.table.now.routes =
    ap length c.in_ok-starts.ensures ∙ length-replicate c.routes.result 4294967295 ∙ c.routes.ensures.count in
    let told : map (answer_of slots) (take 1 bests) ≡ None ∷ [] =
    ap (λ l. map (answer_of slots) (take 1 l)) are ∙ none_first slots c.args.limit none (omega arith) in
    kept_same c.args.stops _ _ c.args.limit _ _ many told
