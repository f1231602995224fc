use Rattle.std.proofs.Common.{◌≡◌, take, rules, arith, refl}
use Rattle.std.specs.List.{suffix_len}
use Rattle.std.proofs.lemmas.List.Sums.{suffix_len-take_no}
use Rattle.tables.specs.Table.{is_blank}
use Rattle.tables.proofs.Trims.{back_is}
use Rattle.tables.proofs.column.without_back.Goals as goal
use Rattle.tables.proofs.column.without_back.Goals.{then-loop-end-test+else-is_blank, else-loop-end-test}

pub returns : goal.returns
returns c =
    let stops : suffix_len is_blank (take c.loop-end.end c.args.text.now) ≡ 0 =
    elim c.loop-end-test.branch [
      | then-loop-end-test+else-is_blank w ↦ suffix_len-take_no is_blank c.args.text.now c.loop-end.end 0 (omega arith) c.loop-end.invariant.within (search rules)
      | else-loop-end-test w ↦ (let none : c.loop-end.end ≡ 0 = omega arith in rw none refl)
    ] in
    back_is _ _ c.loop-end.invariant.within c.loop-end.invariant.blanks stops
