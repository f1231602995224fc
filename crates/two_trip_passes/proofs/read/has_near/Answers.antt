use Rattle.std.proofs.Common.{inl, inr, refl, subst, arith}
use Rattle.std.proofs.lemmas.Bool.{false≢true, cases_lt}
use Rattle.move_model.specs.declared.network.StopNo.{StopNo}
use Rattle.pareto_laws.proofs.Calls.{stop_eq}
use Rattle.two_trip_passes.specs.Read.{IsNear}
use Rattle.two_trip_passes.proofs.read.has_near.Goals as goal

pub returns-then-is_near : goal.returns-then-is_near
returns-then-is_near c =
    (λ _. record { stop = record { 0 = c.loop-stop.stop }; exists = omega arith; near = c.is_near.ensures.0 c.if-is_near.true }, λ _. refl)

pub loop-stop-preserved : goal.loop-stop-preserved
loop-stop-preserved c = record {
  none = λ w low near. elim (cases_lt w.0 c.loop-stop.stop) [
    | inl l ↦ c.loop-stop.invariant.none w l near
    | inr g ↦ false≢true (c.if-is_near.ensures.1 (subst (λ (s : StopNo). IsNear c.args.rows.now c.args.best.now s c.args.place c.args.arrive) (stop_eq w (record { 0 = c.loop-stop.stop }) (omega arith)) near))
  ];
}
