use Rattle.std.proofs.Common.{rules, arith, ◌≡◌, ℕ, List, subst, sym, Vec, Global}
use Rattle.walk_laws.specs.declared.CoreArc.{CoreArc}
use Rattle.walk_core.specs.declared.search.Label.{Label}
use Rattle.walk_core.specs.Search.{AllLabels}
use Rattle.walk_core.proofs.LabelLemmas.{label_read}
use Rattle.walk_core.proofs.search.Search.step.Goals as goal

moved : (out : List (List CoreArc)) (rank : List ℕ) (avoid from : ℕ) (one two : Vec Label Global) (r s : ℕ) → two ≡ one → s ≡ r
    → AllLabels out rank avoid from one.items r → AllLabels out rank avoid from two.items s
moved out rank avoid from one two r s e f all =
    subst (λ (v : Vec Label Global). AllLabels out rank avoid from v.items s) (sym e) (subst (λ (k : ℕ). AllLabels out rank avoid from one.items k) (sym f) all)

pub returns-clause-labels : goal.returns-clause-labels
returns-clause-labels c = λ from all.
    let after_next = moved c.args.out.now c.args.rank.now c.args.avoid from c.args.self.now.labels c.next.new.self.labels c.args.self.now.run c.next.new.self.run c.next.ensures.same c.next.ensures.run all in
    let label = label_read c.args.out.now c.args.rank.now c.args.avoid from c.next.new.self.labels.items c.next.new.self.run c.in-Some.at c.seconds_at-reached.result
    after_next (search rules) (c.seconds_at-reached.ensures (omega (arith, c.requires.limit))) in
    c.relax.ensures.labels from label
    (moved c.args.out.now c.args.rank.now c.args.avoid from c.next.new.self.labels c.meets.new.self.labels c.next.new.self.run c.meets.new.self.run c.meets.ensures.same c.meets.ensures.run after_next)
