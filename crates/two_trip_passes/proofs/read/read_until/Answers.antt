use Rattle.std.proofs.Common.{◌≡◌, ◌⊎◌, length, subst, arith}
use Rattle.two_trip_passes.specs.Read.{IsReadLast}
use Rattle.two_trip_passes.proofs.ReadLemmas.{until_more, last_more}
use Rattle.two_trip_passes.proofs.read.read_until.Goals as goal

pub loop-stop-preserved : goal.loop-stop-preserved
loop-stop-preserved c =
    let was = c.loop-stop.invariant in
    let b = c.until_stop-until.ensures in
    record {
      until = until_more c.args.rows.now c.args.foot.now c.args.second c.args.own.now c.args.boarded.now c.args.best.now c.args.known.now c.loop-stop.stop c.loop-stop.until c.until_stop-until.result b.later
          was.until b.until;
      last = last_more c.args.rows.now c.args.foot.now c.args.second c.args.own.now c.args.boarded.now c.args.best.now c.loop-stop.stop c.loop-stop.until c.until_stop-until.result was.last b.last;
    }

pub returns-clause-last : goal.returns-clause-last
returns-clause-last c =
    let e : c.loop-stop.stop ≡ length c.args.rows.now.places = omega arith in
    subst (λ m. (c.loop-stop.until ≡ 0) ⊎ IsReadLast c.args.rows.now c.args.foot.now c.args.second c.args.own.now c.args.boarded.now c.args.best.now m c.loop-stop.until) e c.loop-stop.invariant.last
