use Rattle.std.proofs.Common.{rules, List, sym, subst}
use Rattle.std.specs.Prelude.{All}
use Rattle.std.proofs.lemmas.List.Elements.{All-push}
use Rattle.move_model.specs.declared.network.NodeNo.{NodeNo}
use Rattle.move_model.specs.Streets.{IsVertex}
use Rattle.walk_checks.proofs.graphs.push_vertex.Goals as goal

pub returns : goal.returns
returns c = λ all.
    subst (λ (list : List NodeNo). All (λ v. IsVertex c.args.graph.now v) list) (sym c.in_ok-push.ensures.items)
    (All-push (λ v. IsVertex c.args.graph.now v) c.args.list.now.items (record { 0 = c.args.number }) all (record { from_one = search rules; to_nodes = search rules }))
