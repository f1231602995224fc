use Rattle.std.proofs.Common.{◌≤◌, ◌+◌, ℕ, min, slice_index, sym, ap, subst, ◌∙◌, arith, Some}
use Rattle.std.proofs.lemmas.Option.{slice_get-get_or}
use Rattle.std.proofs.lemmas.List.Elements.{Contains-get_or}
use Rattle.move_model.specs.declared.network.StopNo.{StopNo}
use Rattle.move_model.specs.Listed.{HasTransfer}
use Rattle.raptor_rounds.specs.Labels.{ReadyBy}
use Rattle.raptor_rounds.proofs.WalksLemmas.{ready_falls_on, below_more}
use Rattle.raptor_rounds.proofs.go_on.go_on.Goals as goal

pub loop-y-preserved : goal.loop-y-preserved
loop-y-preserved c =
    let was = c.loop-y.invariant in
    let now = c.go_on_from.ensures in
    let stops = c.as_slice-stops.result.now in
    let n = c.loop-y.y-index in
    let at : ℕ = slice_index stops n in
    let list = c.args.list.now in
    let left = c.args.found.now.left in
    record {
      known = λ i y x m lt here has. below_more 0 stops n
          (λ k. (x : StopNo) (m : ℕ) → HasTransfer list (record { 0 = k }) x m → min (slice_index c.go_on_from.new.ready.seconds x.0) c.args.found.now.best ≤ slice_index left k + m)
          c.loop-y-test.true
          (λ i k less here x m has. omega (arith, was.known i (record { 0 = k }) x m less here has, now.falls.seconds x.0))
          (λ x m has. omega (arith, now.known x m has, c.get-second.ensures)) i y.0 lt here x m has;
      falls = ready_falls_on _ _ _ was.falls now.falls;
      sound = λ s way old. now.sound s
          (λ x m has lt. subst (λ v. ReadyBy s x (v + m) (c.args.base + at + 1)) (sym c.get-second.ensures)
          (way (record { 0 = at }) x m ((c.as_slice-stops.ensures.numbers at).0 (Contains-get_or stops n 0 c.loop-y-test.true)) has (omega (arith, lt, c.get-second.ensures))))
          (was.sound s way old);
    }

pub returns-clause-known : goal.returns-clause-known
returns-clause-known c y x m fresh has =
    let in_set = (c.as_slice-stops.ensures.numbers y.0).1 fresh in
    c.loop-y.invariant.known in_set.0 y x m (omega (arith, in_set.1, c.loop-y-test.false))
    (slice_get-get_or c.as_slice-stops.result.now in_set.0 y.0 in_set.1 ∙ ap Some in_set.2) has
