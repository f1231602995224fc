use Rattle.std.proofs.Common.{rules}
use Rattle.walk_core.proofs.LabelLemmas.{AllLabels-start}
use Rattle.walk_core.proofs.search.Search.search.Goals as goal

pub loop-i-init : goal.loop-i-init
loop-i-init c = record {
  many = c.begin.ensures.many;
  labels = AllLabels-start c.args.out.now c.args.rank.now c.args.avoid c.args.from c.begin.new.self.labels.items c.begin.new.self.run (search rules) c.requires.left c.requires.other c.begin.ensures.none;
}
