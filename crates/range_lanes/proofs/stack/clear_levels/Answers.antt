use Rattle.std.proofs.Common.{◌≡◌, ◌<◌, ◌∙◌, length, get_or, subst, sym, arith}
use Rattle.std.proofs.lemmas.List.{length-set}
use Rattle.std.proofs.lemmas.List.Elements.{All-set, AllWithin-more_set}
use Rattle.range_lanes.specs.Levels.{Fits}
use Rattle.range_lanes.specs.State.{IsBlank}
use Rattle.range_lanes.proofs.stack.clear_levels.Goals as goal

pub loop-k-preserved : goal.loop-k-preserved
loop-k-preserved c =
    let was = c.loop-k.invariant in
    let low : c.loop-k.k < length c.loop-k.levels = omega (arith, c.loop-k-test.true, was.many) in
    record {
      many = length-set c.loop-k.levels c.loop-k.k _ ∙ was.many;
      fits = λ stops all. All-set (Fits stops) c.loop-k.levels c.loop-k.k _
          (c.clear_level.ensures stops (was.fits stops all c.loop-k.k _ low)).fits (was.fits stops all);
      blank = λ stops all. AllWithin-more_set c.loop-k.levels c.loop-k.k _ low (IsBlank stops) (was.blank stops all)
          (c.clear_level.ensures stops (was.fits stops all c.loop-k.k _ low));
    }

pub returns-clause-blank : goal.returns-clause-blank
returns-clause-blank c stops all k d lt = c.loop-k.invariant.blank stops all k d (omega arith) (omega (arith, lt, c.loop-k-test.false, c.loop-k.invariant.many))
