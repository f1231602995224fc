use Rattle.std.proofs.Common.{refl, sym, ap, ◌||◌, ◌∙◌, arith}
use Rattle.plain_search.proofs.Walked.{WalksOn-same, WalksOn-both, WalksOn-more, arc_among, FellOrWalked-more, FellOrWalked-all}
use Rattle.plain_search.proofs.walks.walk_arcs.Goals as goal
use Rattle.plain_search.proofs.walks.walk_arcs.Goals.{then-branch, else-branch}

pub loop-arc-init : goal.loop-arc-init
loop-arc-init c =
    record {
      whole = c.requires;
      walks = WalksOn-same _ _;
      falls = (refl, λ arc m none. absurd (omega (arith, none.1)));
    }

pub loop-arc-preserved : goal.loop-arc-preserved
loop-arc-preserved c =
    let here = c.in_ok-walk_arc.ensures in
    record {
      whole = here.whole;
      walks =
          WalksOn-both _ _ _ _ c.loop-arc.invariant.walks
          (WalksOn-more _ _ _ _ (arc_among _ _ _ c.loop-arc-test.true) here.walks_on);
      falls =
          FellOrWalked-more c.args.arcs.now c.loop-arc.arc-index (record { from = record { 0 = 0 }; to = record { 0 = 0 }; seconds = 0 })
          c.args.row.now c.loop-arc.row c.walk_arc.new.row c.loop-arc.fell c.in_ok-walk_arc.field-0 c.if-branch.fell
          c.loop-arc-test.true c.loop-arc.invariant.falls here.falls
          (elim c.if-branch.branch [
            | then-branch w ↦ ap (λ b. b || c.loop-arc.fell) w.if-branch.true ∙ sym w.fell-is
            | else-branch w ↦ ap (λ b. b || c.loop-arc.fell) w.if-branch.false ∙ sym w.fell-is
          ]);
    }

pub returns-clause-falls : goal.returns-clause-falls
returns-clause-falls c =
    FellOrWalked-all c.args.arcs.now c.loop-arc.arc-index c.args.row.now c.loop-arc.row c.loop-arc.fell c.loop-arc-test.false c.loop-arc.invariant.falls
