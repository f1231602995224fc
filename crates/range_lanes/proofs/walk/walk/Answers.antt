use Rattle.std.proofs.Common.{◌+◌, ℕ, ap, subst, sym, ◌∙◌, arith, Some}
use Rattle.std.specs.Prelude.{slice_index}
use Rattle.std.proofs.lemmas.Option.{slice_get-get_or}
use Rattle.std.proofs.lemmas.List.Elements.{Contains-get_or}
use Rattle.move_model.specs.declared.network.StopNo.{StopNo}
use Rattle.move_model.specs.Listed.{HasTransfer}
use Rattle.range_lanes.specs.Levels.{Reached}
use Rattle.raptor_rounds.proofs.WalksLemmas.{below_more}
use Rattle.range_lanes.proofs.Walking.{ready_falls_on, reached_falls}
use Rattle.range_lanes.proofs.walk.walk.Goals as goal

pub loop-y-preserved : goal.loop-y-preserved
loop-y-preserved c =
    let was = c.loop-y.invariant in
    let now = c.walk_from.ensures in
    let stops = c.as_slice-stops.result.now in
    let n = c.loop-y.y-index in
    let at : ℕ = slice_index stops n in
    let list = c.args.list.now in
    let below = c.args.below.now in
    let new = c.walk_from.new.level in
    record {
      known = λ i y x m lt here has. below_more 0 stops n
          (λ k. (x : StopNo) (m : ℕ) → HasTransfer list (record { 0 = k }) x m → Reached below new x.0 (slice_index new.left.items k + m))
          c.loop-y-test.true
          (λ i k less here x m has.
          subst (λ v. Reached below new x.0 (slice_index v.items k + m)) (sym now.falls.left_same)
          (reached_falls below c.loop-y.level new x.0 _ now.falls.falls (was.known i (record { 0 = k }) x m less here has)))
          (λ x m has. now.known x m has) i y.0 lt here x m has;
      falls = ready_falls_on _ _ _ _ _ _ was.falls now.falls;
      sound = λ q list_is sure old. now.sound q list_is
          (omega (arith, sure at ((c.as_slice-stops.ensures.numbers at).0 (Contains-get_or stops n 0 c.loop-y-test.true)), ap (λ v. slice_index v.items at) was.falls.left_same))
          (was.sound q list_is sure old);
    }

pub returns-clause-known : goal.returns-clause-known
returns-clause-known c y x m fresh has =
    let in_set = (c.as_slice-stops.ensures.numbers y.0).1 fresh in
    c.loop-y.invariant.known in_set.0 y x m (omega (arith, in_set.1, c.loop-y-test.false))
    (slice_get-get_or c.as_slice-stops.result.now in_set.0 y.0 in_set.1 ∙ ap Some in_set.2) has
