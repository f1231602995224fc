use Rattle.std.proofs.Common.{◌≡◌, ◌+◌, ◌++◌, List, length, set, get_or, sym, subst, arith, Some}
use Rattle.std.specs.Prelude.{slice_get, All}
use Rattle.std.proofs.lemmas.Option.{slice_get-get_or}
use Rattle.std.proofs.lemmas.List.Elements.{All-append, All-set, All-take, All-drop}
use Rattle.range_lanes.specs.declared.level.Level.{Level}
use Rattle.range_lanes.specs.Levels.{Fits}
use Rattle.range_lanes.specs.State.{IsBetween, AreSound}
use Rattle.range_lanes.proofs.Rounding.{round_slice, sound_slice}
use Rattle.range_lanes.proofs.seconds.round.Goals as goal

pub returns-clause-between : goal.returns-clause-between
returns-clause-between g c was =
    let table = c.args.table.now in
    let first = c.args.first.now in
    let last = c.args.last.now in
    let list = c.args.list.now in
    let parts = c.split_at_mut-below.result in
    let split = c.split_at_mut-below.ensures in
    let a : Level = get_or parts.1.now 0 c.index-rest-0.result in
    let is : slice_get parts.1.now 0 ≡ Some a = slice_get-get_or parts.1.now 0 c.index-rest-0.result (omega (arith, split.back_len, c.requires.k)) in
    let now = c.round_at.ensures in
    subst (λ k. IsBetween table first last list c.args.depart (k + 1) c.round_at.new.better (parts.0.now ++ set parts.1.now 0 c.round_at.new.level)) split.front_len
    (round_slice table first last list c.args.depart parts.0.now parts.1.now a c.round_at.new.level c.args.better.now c.round_at.new.better
    is now.falls now.followed now.ready now.walked now.covers
    (subst (λ k. IsBetween table first last list c.args.depart k c.args.better.now (parts.0.now ++ parts.1.now)) (sym split.front_len)
    (subst (λ (ls : List Level). IsBetween table first last list c.args.depart c.args.k c.args.better.now ls) split.value was)))

pub returns-clause-sound : goal.returns-clause-sound
returns-clause-sound g c q first_is last_is list_is depart_is buffer_is holds was =
    let parts = c.split_at_mut-below.result in
    let split = c.split_at_mut-below.ensures in
    let a : Level = get_or parts.1.now 0 c.index-rest-0.result in
    let is : slice_get parts.1.now 0 ≡ Some a = slice_get-get_or parts.1.now 0 c.index-rest-0.result (omega (arith, split.back_len, c.requires.k)) in
    let now = c.round_at.ensures in
    sound_slice q parts.0.now parts.1.now a c.round_at.new.level is now.falls
    (λ ready old. now.sound q first_is last_is list_is depart_is buffer_is holds ready old)
    (subst (λ (ls : List Level). AreSound q ls) split.value was)

pub returns-clause-fits : goal.returns-clause-fits
returns-clause-fits g c =
    let parts = c.split_at_mut-below.result in
    let split = c.split_at_mut-below.ensures in
    let fit : Level → Type 0 = Fits (length c.args.last.now) in
    All-append fit parts.0.now _ (subst (λ (ls : List Level). All fit ls) (sym split.front) (All-take fit _ _ c.requires.fits))
    (All-set fit parts.1.now 0 c.round_at.new.level c.round_at.ensures.fits (subst (λ (ls : List Level). All fit ls) (sym split.back) (All-drop fit _ _ c.requires.fits)))
