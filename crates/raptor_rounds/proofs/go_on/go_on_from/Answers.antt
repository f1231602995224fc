use Rattle.std.proofs.Common.{inl, inr, length, refl, sym, subst, ◌∙◌, arith, add-zero}
use Rattle.std.specs.Prelude.{Contains, slice_index_or}
use Rattle.move_model.specs.declared.network.StopNo.{StopNo}
use Rattle.raptor_rounds.specs.Answers.{IsEntryWithin}
use Rattle.raptor_rounds.specs.Labels.{ReadyBy}
use Rattle.raptor_rounds.proofs.EntriesLemmas.{all_of_part}
use Rattle.raptor_rounds.proofs.go_on.go_on_from.Goals as goal

pub walk_from-requires-clause-entries : goal.walk_from-requires-clause-entries
walk_from-requires-clause-entries c k d lt =
    let part = c.entries_of-entries.result.now in
    subst (λ n. IsEntryWithin n (slice_index_or part k d)) (sym c.lower_ready.ensures.falls.stops)
    (all_of_part (length c.args.ready.now.seconds) c.args.list.now part c.requires.list c.entries_of-entries.ensures.within k d lt)

pub returns-clause-sound : goal.returns-clause-sound
returns-clause-sound c s way old =
    let from = c.args.from in
    c.walk_from.ensures.sound s
    (λ e has same lt. way e.to e.seconds
    (inr (subst (λ (v : StopNo). Contains c.args.list.now (record { from = v; to = e.to; seconds = e.seconds })) same (c.entries_of-entries.ensures.within e has))) lt)
    (c.lower_ready.ensures.sound s
    (λ lt. subst (λ r. ReadyBy s from r c.args.by) (add-zero c.args.second ∙ sym c.from.ensures) (way from 0 (inl (refl, refl)) (omega (arith, lt, c.from.ensures))))
    old)
