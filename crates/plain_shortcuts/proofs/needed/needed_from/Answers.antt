use Rattle.std.proofs.Common.{◌≡◌, ◌+◌, ◌-◌, List, slice_index_or, sym, subst, arith}
use Rattle.std.proofs.lemmas.List.Elements.{Contains-get_or}
use Rattle.move_model.specs.declared.network.NodeNo.{NodeNo}
use Rattle.move_model.specs.Network.{node_of}
use Rattle.plain_search.specs.Answer.{HoldsEarliest}
use Rattle.plain_shortcuts.specs.declared.changes.Change.{Change}
use Rattle.plain_shortcuts.specs.Needed.{AreChanges}
use Rattle.plain_shortcuts.proofs.Lists.{comes_none}
use Rattle.plain_shortcuts.proofs.ChangeLemmas.{change_stands}
use Rattle.plain_shortcuts.proofs.NeededLemmas.{needed_at, arrivals_of, has_row}
use Rattle.plain_shortcuts.proofs.needed.needed_from.Goals as goal

pub note_needed-requires-clause-stand : goal.note_needed-requires-clause-stand
note_needed-requires-clause-stand c = λ k d low.
    let n = c.args.network.now in
    let cs = c.as_slice.result.now in
    let z = c.args.departs - c.args.network.now.buffer in
    let are : AreChanges n c.args.stop z cs = subst (λ (xs : List Change). AreChanges n c.args.stop z xs) (sym c.as_slice.ensures.value) c.in_ok-changes.ensures in
    change_stands n c.args.stop z (slice_index_or cs k d) c.requires.rules.network ((are (slice_index_or cs k d)).0 (Contains-get_or cs k d low))

pub returns-in-Some : goal.returns-in-Some
returns-in-Some c = λ x y.
    let n = c.args.network.now in
    let u = c.args.stop in
    let cs = c.as_slice.result.now in
    let z = c.args.departs - c.args.network.now.buffer in
    let at : c.args.departs ≡ (c.args.departs - c.args.network.now.buffer) + c.args.network.now.buffer = omega (arith, c.if-departs-network.false) in
    let are : AreChanges n u z cs = subst (λ (xs : List Change). AreChanges n u z xs) (sym c.as_slice.ensures.value) c.in_ok-changes.ensures in
    let holds : HoldsEarliest n (node_of n u) z 1 c.in_ok-rows.rows =
    subst (λ (v : NodeNo). HoldsEarliest n v z 1 c.in_ok-rows.rows) c.node_of.ensures (c.in_ok-rows.ensures c.requires.rules.network c.requires.numbered) in
    let arrive = arrivals_of n (node_of n u) z c.in_ok-rows.rows c.in-Some.arrivals.now holds (sym c.in-Some.ensures) in
    comes_none _ _ _ _ (c.in_ok-note_needed-in-Some.ensures z at are arrive x y) (needed_at n u c.args.departs z x y at)

pub returns : goal.returns
returns c =
    absurd (has_row c.args.network.now c.node_of.result (c.args.departs - c.args.network.now.buffer) c.in_ok-rows.rows
    (c.in_ok-rows.ensures c.requires.rules.network c.requires.numbered) c.in-None.ensures)
