use Rattle.std.proofs.Common.{◌≡◌, ℕ, Some, None, slice_index_or, sym, ap, ◌∙◌}
use Rattle.std.proofs.lemmas.Bool.{false≢true}
use Rattle.move_model.specs.declared.network.NodeNo.{NodeNo}
use Rattle.move_model.specs.Network.{node_of}
use Rattle.plain_shortcuts.proofs.NeededLemmas.{arrives_some, arrives_none}
use Rattle.plain_shortcuts.proofs.needed.arrives_by.Goals as goal

pub returns-in-Some : goal.returns-in-Some
returns-in-Some c = λ s z has.
    let row = c.args.arrivals.now in
    let e : slice_index_or c.args.arrivals.now (node_of c.args.network.now c.args.to).0 None ≡ Some c.in-Some.arrival =
    ap (λ (v : NodeNo). slice_index_or c.args.arrivals.now v.0 None) (sym c.node_of.ensures) ∙ sym c.in-Some.ensures in
    let both = arrives_some c.args.network.now s z row (node_of c.args.network.now c.args.to) c.in-Some.arrival c.args.second has e in
    (λ t. both.0 (c.is_by.ensures.0 t), λ by. c.is_by.ensures.1 (both.1 by))

pub returns-in-None : goal.returns-in-None
returns-in-None c = λ s z has.
    let row = c.args.arrivals.now in
    let e : slice_index_or c.args.arrivals.now (node_of c.args.network.now c.args.to).0 None ≡ None =
    ap (λ (v : NodeNo). slice_index_or c.args.arrivals.now v.0 None) (sym c.node_of.ensures) ∙ sym c.in-None.ensures in
    (λ t. absurd (false≢true t), λ by. absurd (arrives_none c.args.network.now s z row (node_of c.args.network.now c.args.to) c.args.second has e by))
