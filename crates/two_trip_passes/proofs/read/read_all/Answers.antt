use Rattle.std.proofs.Common.{◌≡◌, ℕ, ◌⊎◌, arith, length, subst}
use Rattle.std.specs.Prelude.{◌↔◌}
use Rattle.two_trip_passes.specs.Read.{IsFound, HasRead}
use Rattle.two_trip_passes.proofs.ReadLemmas.{read_more}
use Rattle.two_trip_passes.proofs.read.read_all.Goals as goal

pub loop-stop-preserved : goal.loop-stop-preserved
loop-stop-preserved c =
    let was = c.loop-stop.invariant in
    let b = c.read_stop.ensures in
    record {
      pairs = λ q. read_more c.args.rows.now c.args.foot.now c.args.second c.args.own.now c.args.boarded.now c.args.best.now c.args.before c.loop-stop.stop c.args.known.now c.args.pairs.now.items c.loop-stop.pairs.items c.read_stop.new.pairs.items q
          (was.pairs q) (b.pairs q);
      len = omega (arith, was.len, b.len);
      capacity = omega (arith, was.capacity, b.capacity);
    }

pub returns : goal.returns
returns c =
    let e : c.loop-stop.stop ≡ length c.args.rows.now.places = omega arith in
    record {
      pairs = λ q. subst (λ (m : ℕ). IsFound c.args.known.now c.loop-stop.pairs.items q
          ↔ (IsFound c.args.known.now c.args.pairs.now.items q ⊎ HasRead c.args.rows.now c.args.foot.now c.args.second c.args.before c.args.own.now c.args.boarded.now c.args.best.now m q.0 q.1)) e (c.loop-stop.invariant.pairs q);
      capacity = c.loop-stop.invariant.capacity;
    }
