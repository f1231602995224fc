use Rattle.std.proofs.Common.{refl, inr}
use Rattle.std.proofs.lemmas.Bool.{false≢true}
use Rattle.move_model.specs.Network.{node_of}
use Rattle.plain_shortcuts.proofs.NeededLemmas.{distance_self, bettered_by, bettered_less}
use Rattle.plain_shortcuts.proofs.needed.is_bettered.Goals as goal

pub returns-then-arrives_by : goal.returns-then-arrives_by
returns-then-arrives_by c = λ u z are has.
    let n = c.args.network.now in
    let change = c.args.change.now in
    (λ _. bettered_by n u z c.args.changes.now are change change.second.off.stop 0 (inr ((c.if-arrives_by.ensures (node_of n u) z has).0 refl)), λ _. refl)

pub returns-in-Some : goal.returns-in-Some
returns-in-Some c = λ u z are has.
    let n = c.args.network.now in
    let made = c.in-Some.ensures in
    let both = bettered_less n u z c.args.changes.now c.args.change.now c.in-Some.key made.0 c.requires.rules.network are c.requires.stands.left_second made.1 made.2
    (λ by. false≢true ((c.if-arrives_by.ensures (node_of n u) z has).1 by)) in
    (λ t. both.0 (c.has_less.ensures.0 t), λ is. c.has_less.ensures.1 (both.1 is))

pub returns-in-None : goal.returns-in-None
returns-in-None c = λ u z are has.
    absurd (c.in-None.ensures 0 (distance_self c.args.network.now c.args.change.now.second.off.stop c.requires.rules.network c.requires.stands.left_second))
