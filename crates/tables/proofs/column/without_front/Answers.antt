use Rattle.std.proofs.Common.{◌≡◌, drop, rules}
use Rattle.std.specs.List.{prefix_len}
use Rattle.std.proofs.lemmas.List.Sums.{prefix_len-drop_no, prefix_len-drop_all}
use Rattle.tables.specs.Table.{is_blank}
use Rattle.tables.proofs.Trims.{front_is}
use Rattle.tables.proofs.column.without_front.Goals as goal
use Rattle.tables.proofs.column.without_front.Goals.{then-loop-start-test+else-is_blank, else-loop-start-test}

pub returns : goal.returns
returns c =
    let stops : prefix_len is_blank (drop c.loop-start.start c.args.text.now) ≡ 0 =
    elim c.loop-start-test.branch [
      | then-loop-start-test+else-is_blank w ↦ prefix_len-drop_no is_blank c.args.text.now c.loop-start.start 0 w.loop-start-test.true (search rules)
      | else-loop-start-test w ↦ prefix_len-drop_all is_blank c.args.text.now c.loop-start.start w.loop-start-test.false
    ] in
    front_is _ _ c.loop-start.invariant.blanks stops
