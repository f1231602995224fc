use Rattle.std.proofs.Common.{◌<◌, sym, subst, arith}
use Rattle.std.specs.Prelude.{vec_len}
use Rattle.std.proofs.lemmas.List.{get_or_default}
use Rattle.range_lanes.specs.declared.level.Level.{Level}
use Rattle.range_lanes.proofs.walk.is_ready_below.Goals as goal

pub returns-then-from-second : goal.returns-then-from-second
returns-then-from-second c =
    let item = c.level-item.result in
    let within : c.args.stop.0 < vec_len item.ready =
    subst (λ (v : Level). c.args.stop.0 < vec_len v.ready) (sym c.level-item.is) (c.requires c.loop-level.level-index item c.loop-level-test.true) in
    λ yes. (
      item,
      (c.loop-level.level-index, c.loop-level-test.true, sym c.level-item.is),
      omega (arith, c.if-from-second.true, c.from.ensures, c.index.ensures, get_or_default item.ready.items c.args.stop.0 c.index.result.now 0 (omega (arith, within))),
    )
