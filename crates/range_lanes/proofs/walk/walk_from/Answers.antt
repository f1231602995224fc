use Rattle.std.proofs.Common.{◌≡◌, ◌+◌, ℕ, List, length, inl, inr, refl, sym, ap, subst, ◌∙◌, arith}
use Rattle.std.specs.Prelude.{Contains, slice_index, slice_index_or}
use Rattle.std.proofs.lemmas.List.{get_or_default}
use Rattle.move_model.specs.declared.network.StopNo.{StopNo}
use Rattle.move_model.specs.declared.journey.Shortcut.{Shortcut}
use Rattle.raptor_rounds.specs.Answers.{IsEntryWithin}
use Rattle.raptor_rounds.proofs.EntriesLemmas.{all_of_part}
use Rattle.range_lanes.specs.Levels.{Reached}
use Rattle.range_lanes.proofs.Walking.{reached_falls, walks_same}
use Rattle.range_lanes.proofs.walk.walk_from.Goals as goal

pub walk_by-requires-clause-entries : goal.walk_by-requires-clause-entries
walk_by-requires-clause-entries c k d lt =
    let part = c.entries_of-entries.result.now in
    subst (λ n. IsEntryWithin n (slice_index_or part k d)) (sym c.reach.ensures.falls.better_length)
    (all_of_part (length c.args.better.now) c.args.list.now part c.requires.list c.entries_of-entries.ensures.within k d lt)

pub returns-clause-known : goal.returns-clause-known
returns-clause-known c x m has =
    let from = c.args.from in
    let below = c.args.below.now in
    let new = c.walk_by.new.level in
    let second : ℕ = c.index-second.result.now in
    let left : List ℕ = c.args.level.now.left.items in
    let is : second ≡ slice_index new.left.items from.0 =
    c.index-second.ensures ∙ get_or_default left from.0 second 0 (omega (arith, c.requires.from, c.requires.fits.left))
    ∙ ap (λ v. slice_index v.items from.0) (sym (c.walk_by.ensures.falls.left_same ∙ c.reach.ensures.falls.left_same)) in
    elim has [
      | inl stays ↦
          subst (λ (v : StopNo). Reached below new v.0 (slice_index new.left.items from.0 + m)) stays.0
          (subst (λ r. Reached below new from.0 r) (omega (arith, c.from.ensures, is, stays.1))
          (reached_falls below c.reach.new.level new from.0 c.from.result c.walk_by.ensures.falls.falls c.reach.ensures.known))
      | inr listed ↦
          let entry : Shortcut = record { from = from; to = x; seconds = m } in
          subst (λ s. Reached below new x.0 (s + m)) is (c.walk_by.ensures.known entry (c.entries_of-entries.ensures.all entry listed refl) refl)
    ]

pub returns-clause-sound : goal.returns-clause-sound
returns-clause-sound c q list_is sure old =
    let from = c.args.from in
    let second : ℕ = c.index-second.result.now in
    let left : List ℕ = c.args.level.now.left.items in
    let is : second ≡ slice_index left from.0 =
    c.index-second.ensures ∙ get_or_default left from.0 second 0 (omega (arith, c.requires.from, c.requires.fits.left)) in
    c.walk_by.ensures.sound q
    (λ e has from_is. walks_same q c.args.level.now c.reach.new.level from e.to (second + e.seconds) c.reach.ensures.falls.left_same
    (record {
      seconds = e.seconds;
      transfer = inr (subst (λ (l : List Shortcut). Contains l (record { from = from; to = e.to; seconds = e.seconds })) (sym list_is)
          (subst (λ (v : StopNo). Contains c.args.list.now (record { from = v; to = e.to; seconds = e.seconds })) from_is (c.entries_of-entries.ensures.within e has)));
      left = sure;
      by_second = omega (arith, is);
    }))
    (c.reach.ensures.sound q
    (λ lt. record { seconds = 0; transfer = inl (refl, refl); left = sure; by_second = omega (arith, is, c.from.ensures) })
    old)
