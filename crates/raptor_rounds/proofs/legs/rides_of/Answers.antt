use Rattle.std.proofs.Common.{◌-◌, ◌++◌, [], ◌∷◌, take, sym, ap, ◌∙◌, arith}
use Rattle.raptor_rounds.specs.Answers.{turned_onto}
use Rattle.raptor_rounds.proofs.SlotsLemmas.{turned_more}
use Rattle.raptor_rounds.proofs.legs.rides_of.Goals as goal

pub loop-at-preserved : goal.loop-at-preserved
loop-at-preserved c =
    let back = c.in_ok-back.back.items in
    let at = c.loop-at.at in
    let last = c.args.step.ride ∷ [] in
    let item = c.index.result.now in
    let was = c.loop-at.invariant in
    record {
      within = omega (arith, was.within);
      so_far = was.so_far ∙ turned_more back c.loop-at.rides last at item (omega arith) (omega (arith, was.within))
          ∙ ap (λ y. (c.loop-at.rides ++ y ∷ []) ++ turned_onto (take (at - 1) back) last) (sym c.index.ensures)
          ∙ ap (λ l. l ++ turned_onto (take (at - 1) back) last) (sym c.in_ok-push.ensures.ok);
    }
