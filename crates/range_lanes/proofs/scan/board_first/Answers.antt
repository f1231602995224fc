use Rattle.std.proofs.Common.{◌≡◌, ℕ, ◌+◌, List, sym, subst, ◌∙◌, arith, Option, Some, None}
use Rattle.std.specs.Prelude.{slice_get}
use Rattle.std.proofs.lemmas.Option.{same_Some}
use Rattle.range_lanes.specs.Levels.{Exploited, StartsFrom}
use Rattle.range_lanes.proofs.Starting.{starts_first}
use Rattle.range_lanes.proofs.scan.board_first.Goals as goal

walks_same : (o : Option (Option ℕ)) (a b : ℕ) → o ≡ Some (Some a) → o ≡ Some (Some b) → a ≡ b
walks_same o a b e f = same_Some a b (same_Some (Some a) (Some b) (sym e ∙ f))

no_walk : (o : Option (Option ℕ)) (p : Option ℕ) (a : ℕ) → o ≡ Some (Some a) → o ≡ Some p → p ≡ None → ⊥
no_walk o p a e f none = cc

pub returns-in-Some-clause-exploited : goal.returns-in-Some-clause-exploited
returns-in-Some-clause-exploited g c r i m route place is at e walk =
    let same : c.in-Some.walk ≡ m = walks_same _ c.in-Some.walk m c.in-Some.ensures walk in
    subst (λ s. Exploited c.args.below.now c.board_from.new.level route c.args.table.now.buffer i s) (omega (arith, c.from.ensures, same))
    (c.board_from.ensures.exploited r i route place is at e)

pub returns-in-Some-clause-sound : goal.returns-in-Some-clause-sound
returns-in-Some-clause-sound g c q last_is first_is depart_is buffer_is holds old =
    c.board_from.ensures.sound q last_is buffer_is holds
    (λ lt. subst (λ s. StartsFrom q c.args.below.now c.args.stop s c.args.stop) (omega (arith, c.from.ensures, depart_is))
    (starts_first q c.args.below.now c.args.stop c.args.stop c.in-Some.walk c.requires.none
    (subst (λ (row : List (Option ℕ)). slice_get row c.args.stop.0 ≡ Some (Some c.in-Some.walk)) (sym first_is) c.in-Some.ensures)))
    old

pub returns-in_default-clause-exploited : goal.returns-in_default-clause-exploited
returns-in_default-clause-exploited g c r i m route place is at e walk = absurd (no_walk _ c.get.result m walk c.get.ensures c.in_default.is)
