use Rattle.std.proofs.Common.{◌≡◌, ◌+◌, ℕ, get_or, sym, ap, subst, ◌∙◌, arith, Some}
use Rattle.std.proofs.lemmas.List.{get_or_default}
use Rattle.std.proofs.lemmas.Option.{slice_get-get_or}
use Rattle.move_model.specs.declared.network.StopNo.{StopNo}
use Rattle.move_model.specs.declared.journey.Shortcut.{Shortcut}
use Rattle.range_lanes.specs.Levels.{Reached, WalksBy}
use Rattle.raptor_rounds.proofs.WalksLemmas.{below_more}
use Rattle.range_lanes.proofs.Walking.{ready_falls_on, reached_falls, walks_same}
use Rattle.range_lanes.proofs.walk.walk_by.Goals as goal
use Rattle.range_lanes.proofs.walk.walk_by.Goals.{then-e-from, else-e-from}

stop_no : ℕ → StopNo
stop_no n = record { 0 = n }

pub loop-e-preserved : goal.loop-e-preserved
unfolding stop_no
loop-e-preserved c =
    let was = c.loop-e.invariant in
    let entries = c.args.entries.now in
    let n = c.loop-e.e-index in
    let none : Shortcut = record { from = record { 0 = 0 }; to = record { 0 = 0 }; seconds = 0 } in
    let item : Shortcut = get_or entries n none in
    elim c.if-e-from.branch [
      | then-e-from w ↦
          let now = w.reach.ensures in
          let from_same : item.from ≡ c.args.from = ap stop_no w.if-e-from.true in
          rw (w.level-is, w.better-is) (record {
            known = below_more none entries n (λ e. e.from ≡ c.args.from → Reached c.args.below.now w.reach.new.level e.to.0 (c.args.second + e.seconds))
                c.loop-e-test.true
                (λ i e less at same. reached_falls c.args.below.now _ _ e.to.0 _ now.falls.falls (was.known i e less at same))
                (λ same. subst (λ s. Reached c.args.below.now w.reach.new.level item.to.0 (s + item.seconds)) w.from.ensures now.known);
            falls = ready_falls_on _ _ _ _ _ _ was.falls now.falls;
            sound = λ q way old. now.sound q
                (λ lt. subst (λ s. WalksBy q c.loop-e.level c.args.from item.to (s + item.seconds)) (sym w.from.ensures)
                (walks_same q c.args.level.now c.loop-e.level c.args.from item.to _ was.falls.left_same
                (way item (n, c.loop-e-test.true, get_or_default entries n item none c.loop-e-test.true) from_same)))
                (was.sound q way old);
          })
      | else-e-from w ↦
          rw (w.level-is, w.better-is) (record {
            known = below_more none entries n (λ e. e.from ≡ c.args.from → Reached c.args.below.now c.loop-e.level e.to.0 (c.args.second + e.seconds))
                c.loop-e-test.true
                (λ i e less at same. was.known i e less at same)
                (λ same. absurd (w.if-e-from.false (ap (λ (v : StopNo). v.0) same)));
            falls = was.falls;
            sound = was.sound;
          })
    ]

pub returns-clause-known : goal.returns-clause-known
returns-clause-known c e (i, lt, at) same =
    c.loop-e.invariant.known i e (omega (arith, lt, c.loop-e-test.false)) (slice_get-get_or c.args.entries.now i e lt ∙ ap Some at) same
