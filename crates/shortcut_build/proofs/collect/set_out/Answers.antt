use Rattle.std.proofs.Common.{refl, arith}
use Rattle.start_seconds.specs.declared.start.Start.{Start}
use Rattle.shortcut_build.proofs.Starts.{ready_begun, ready_on}
use Rattle.shortcut_build.proofs.collect.set_out.Goals as goal

pub returns-then-not-goes_on-clause-ready : goal.returns-then-not-goes_on-clause-ready
returns-then-not-goes_on-clause-ready c =
    let at : Start = record { place = c.args.place; second = c.args.second } in
    ready_begun c.args.starts.now c.args.k at _ _ c.requires.start c.begin.ensures.place (omega (arith, c.ranges.second.fits, c.begin.ensures.below))

pub returns-else-not-goes_on-clause-ready : goal.returns-else-not-goes_on-clause-ready
returns-else-not-goes_on-clause-ready c =
    ready_on c.args.starts.now c.args.k _ _ c.requires.exists c.requires.later (c.if-not-goes_on.ensures.0 refl) c.requires.after
