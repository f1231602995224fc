use Rattle.std.proofs.Common.{◌+◌, ◌<◌, ◌∙◌, false, length, nat_eq, sym, ap, lit<}
use Rattle.std.specs.Prelude.{replicate}
use Rattle.std.proofs.lemmas.List.{length-map, length-replicate}
use Rattle.std.proofs.lemmas.List.Elements.{All-same, All-replicate}
use Rattle.route_split.proofs.MarkLemmas.{none_marked, all_before_next}
use Rattle.route_split.proofs.marks.RoundMarks.clear.Goals as goal

pub returns-then-self-lt4294967295 : goal.returns-then-self-lt4294967295
returns-then-self-lt4294967295 c =
    let stamps = c.self.inside.stamps.items in
    let round = c.self.inside.round in
    none_marked stamps (round + 1) (all_before_next stamps round c.self.invariant.1)
    ∙ ap (λ n. replicate n false) (sym (length-map stamps (λ stamp. nat_eq stamp round)) ∙ ap length c.self.view_is)

pub returns-else-self-lt4294967295 : goal.returns-else-self-lt4294967295
returns-else-self-lt4294967295 c =
    let stamps = c.self.inside.stamps.items in
    let round = c.self.inside.round in
    let zeros = c.clear_all.ensures in
    none_marked c.clear_all.new.stamps.items 1
    (All-same (λ stamp. stamp < 1) _ _ zeros (All-replicate (λ stamp. stamp < 1) (length stamps) 0 (lit< tt)))
    ∙ ap (λ n. replicate n false)
    (ap length zeros ∙ length-replicate (length stamps) 0 ∙ sym (length-map stamps (λ stamp. nat_eq stamp round)) ∙ ap length c.self.view_is)
