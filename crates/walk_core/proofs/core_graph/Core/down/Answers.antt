use Rattle.std.proofs.Common.{◌≡◌, true, false, sym, ap, ◌∙◌}
use Rattle.std.proofs.lemmas.Bool.{eqb-true}
use Rattle.walk_core.specs.Core.{Contraction, down_row}
use Rattle.walk_core.specs.Row.{left_by}
use Rattle.walk_core.proofs.CoreLemmas.{down_is, down_left, gone_from_test}
use Rattle.walk_core.proofs.core_graph.Core.down.Goals as goal

pub returns-then-is_left : goal.returns-then-is_left
returns-then-is_left c =
    let test : left_by c.self.inside.rank.items c.args.node.0 ≡ true = cc in
    sym (down_left c.self.inside.nodes c.self.inside.out c.self.inside.into c.self.inside.rank.items c.self.inside.contracted.items c.self.invariant.ranks c.args.node.0 (eqb-true _ _ test)) ∙ ap (λ (core : Contraction). down_row core c.args.node.0) c.self.view_is

pub returns-else-is_left : goal.returns-else-is_left
returns-else-is_left c =
    let test : left_by c.self.inside.rank.items c.args.node.0 ≡ false = cc in
    c.row.ensures ∙ sym (down_is c.self.inside.nodes c.self.inside.out c.self.inside.into c.self.inside.rank.items c.self.inside.contracted.items c.self.invariant.ranks c.args.node.0 (gone_from_test c.self.inside.nodes c.self.inside.out c.self.inside.into c.self.inside.rank.items c.self.inside.contracted.items c.self.invariant.ranks c.args.node.0 test)) ∙ ap (λ (core : Contraction). down_row core c.args.node.0) c.self.view_is
