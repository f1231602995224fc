use Rattle.std.proofs.Common.{◌≡◌, ◌<◌, ◌∙◌, false, length, ap, lit<, rules}
use Rattle.std.specs.Prelude.{replicate}
use Rattle.std.proofs.lemmas.List.{length-replicate}
use Rattle.std.proofs.lemmas.List.Elements.{All-same, All-replicate}
use Rattle.route_split.proofs.MarkLemmas.{none_marked}
use Rattle.route_split.proofs.marks.RoundMarks.new.Goals as goal

pub returns : goal.returns
returns c =
    let count = c.routes-count.result in
    let zeros : c.in_ok-stamps.stamps.items ≡ replicate count 0 = search rules in
    none_marked c.in_ok-stamps.stamps.items 1
    (All-same (λ stamp. stamp < 1) _ _ zeros (All-replicate (λ stamp. stamp < 1) count 0 (lit< tt)))
    ∙ ap (λ n. replicate n false) (ap length zeros ∙ length-replicate count 0 ∙ c.routes-count.ensures.count)
