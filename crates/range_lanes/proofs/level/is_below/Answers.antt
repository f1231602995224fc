use Rattle.std.proofs.Common.{◌<◌, sym, subst, arith}
use Rattle.std.specs.Prelude.{vec_len}
use Rattle.std.proofs.lemmas.List.{get_or_default}
use Rattle.range_lanes.specs.declared.level.Level.{Level}
use Rattle.range_lanes.proofs.level.is_below.Goals as goal

pub returns-then-index-second : goal.returns-then-index-second
returns-then-index-second c =
    let item = c.level-item.result in
    let within : c.args.stop.0 < vec_len item.left =
    subst (λ (v : Level). c.args.stop.0 < vec_len v.left) (sym c.level-item.is) (c.requires c.loop-level.level-index item c.loop-level-test.true) in
    λ yes. (
      item,
      (c.loop-level.level-index, c.loop-level-test.true, sym c.level-item.is),
      omega (arith, c.if-index-second.true, c.index.ensures, get_or_default item.left.items c.args.stop.0 c.index.result.now 0 (omega (arith, within))),
    )
