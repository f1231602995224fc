use Rattle.std.proofs.Common.{◌≡◌, ◌∷◌, ◌++◌, [], slice_index_or, refl, arith}
use Rattle.std.proofs.lemmas.Bool.{false≢true}
use Rattle.std.proofs.lemmas.Grind.{common_steps}
use Rattle.std.proofs.lemmas.Option.{slice_get-get_or}
use Rattle.std.proofs.lemmas.List.Elements.{Contains-get_or}
use Rattle.shortcut_laws.specs.Pairs.{Pair}
use Rattle.plain_shortcuts.specs.declared.changes.Change.{Change}
use Rattle.plain_shortcuts.proofs.Lists.{push_has, comes_more, comes_none}
use Rattle.plain_shortcuts.proofs.NeededLemmas.{no_change, needed_more, needed_none, needed_all}
use Rattle.plain_shortcuts.proofs.needed.note_needed.Goals as goal
use Rattle.plain_shortcuts.proofs.needed.note_needed.Goals.{then-is_needed+in_ok-push, else-is_needed}

pub loop-k-preserved : goal.loop-k-preserved
loop-k-preserved c =
    let n = c.args.network.now in
    let u = c.args.stop in
    let changes = c.args.changes.now in
    let k = c.loop-k.k in
    let old = c.loop-k.pairs.items in
    let change : Change = slice_index_or changes k no_change in
    let there = slice_get-get_or changes k no_change c.loop-k-test.true in
    let has = Contains-get_or changes k no_change c.loop-k-test.true in
    let pair : Pair = (change.first.off.stop, change.second.on.stop) in
    elim c.if-is_needed.branch [
      | then-is_needed+in_ok-push w ↦
          let is : c.if-is_needed.pairs.items ≡ old ++ pair ∷ [] = grind (arith, common_steps) in
          rw is (λ z departs are arrive x y.
          let needed = (w.if-is_needed.ensures z departs are arrive ((are change).0 has)).0 refl in
          comes_more _ _ _ _ _ _ (c.loop-k.invariant z departs are arrive x y) (push_has old pair (x, y)) (needed_more n u z changes k change there x y needed))
      | else-is_needed w ↦
          let is : c.if-is_needed.pairs.items ≡ old = grind (arith, common_steps) in
          rw is (λ z departs are arrive x y. comes_none _ _ _ _ (c.loop-k.invariant z departs are arrive x y)
          (needed_none n u z changes k change there x y (λ needed. false≢true ((w.if-is_needed.ensures z departs are arrive ((are change).0 has)).1 needed))))
    ]

pub returns : goal.returns
returns c = λ z departs are arrive x y. comes_none _ _ _ _ (c.loop-k.invariant z departs are arrive x y)
    (needed_all c.args.network.now c.args.stop z c.args.changes.now c.loop-k.k x y c.requires.rules.network are c.loop-k-test.false)
