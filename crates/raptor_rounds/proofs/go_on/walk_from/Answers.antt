use Rattle.std.proofs.Common.{◌≡◌, ◌≤◌, ◌+◌, ℕ, min, slice_index, get_or, sym, ap, subst, ◌∙◌, arith, Some}
use Rattle.std.proofs.lemmas.List.{get_or_default}
use Rattle.std.proofs.lemmas.Option.{slice_get-get_or}
use Rattle.move_model.specs.declared.network.StopNo.{StopNo}
use Rattle.move_model.specs.declared.journey.Shortcut.{Shortcut}
use Rattle.raptor_rounds.specs.Labels.{ReadyBy}
use Rattle.raptor_rounds.proofs.WalksLemmas.{ready_falls_on, below_more}
use Rattle.raptor_rounds.proofs.go_on.walk_from.Goals as goal
use Rattle.raptor_rounds.proofs.go_on.walk_from.Goals.{then-e-from, else-e-from}

stop_no : ℕ → StopNo
stop_no n = record { 0 = n }

pub loop-e-preserved : goal.loop-e-preserved
unfolding stop_no
loop-e-preserved c =
    let was = c.loop-e.invariant in
    let entries = c.args.entries.now in
    let n = c.loop-e.e-index in
    let none : Shortcut = record { from = record { 0 = 0 }; to = record { 0 = 0 }; seconds = 0 } in
    let item : Shortcut = get_or entries n none in
    elim c.if-e-from.branch [
      | then-e-from w ↦
          let now = w.lower_ready.ensures in
          let from_same : item.from ≡ c.args.from = ap stop_no w.if-e-from.true in
          rw w.ready-is (record {
            known = below_more none entries n (λ e. e.from ≡ c.args.from → min (slice_index w.lower_ready.new.ready.seconds e.to.0) c.args.best ≤ c.args.second + e.seconds)
                c.loop-e-test.true
                (λ i e less at same. omega (arith, was.known i e less at same, now.falls.seconds e.to.0))
                (λ same. omega (arith, now.known, w.from.ensures));
            falls = ready_falls_on _ _ _ was.falls now.falls;
            sound = λ s way old. now.sound s
                (λ lt. subst (λ v. ReadyBy s item.to (v + item.seconds) c.args.by) (sym w.from.ensures)
                (way item (n, c.loop-e-test.true, get_or_default entries n item none c.loop-e-test.true) from_same (omega (arith, lt, w.from.ensures))))
                (was.sound s way old);
          })
      | else-e-from w ↦
          rw w.ready-is (record {
            known = below_more none entries n (λ e. e.from ≡ c.args.from → min (slice_index c.loop-e.ready.seconds e.to.0) c.args.best ≤ c.args.second + e.seconds)
                c.loop-e-test.true
                (λ i e less at same. was.known i e less at same)
                (λ same. absurd (w.if-e-from.false (ap (λ (v : StopNo). v.0) same)));
            falls = was.falls;
            sound = was.sound;
          })
    ]

pub returns-clause-known : goal.returns-clause-known
returns-clause-known c e (i, lt, at) same =
    c.loop-e.invariant.known i e (omega (arith, lt, c.loop-e-test.false)) (slice_get-get_or c.args.entries.now i e lt ∙ ap Some at) same
