use Rattle.std.proofs.Common.{◌≡◌, ◌∙◌, ◌<◌, length, sym, arith}
use Rattle.std.proofs.lemmas.Option.{slice_get-get_or}
use Rattle.query_table.proofs.Numbers.{no_stop, stop_at, in_range}
use Rattle.query_table.proofs.stops.StopIds.find.Goals as goal

pub returns-in_default : goal.returns-in_default
returns-in_default c = rw (← c.self.view_is) (no_stop _ _ _ (c.self.invariant c.args.id.now) c.in_default.ensures.value)

pub offset_bounds-self-inside-number : goal.offset_bounds-self-inside-number
offset_bounds-self-inside-number c = omega (arith, in_range _ _ _ c.in-Some.number.now (c.self.invariant c.args.id.now) c.in-Some.ensures.value)

pub bounds-self-inside-number : goal.bounds-self-inside-number
bounds-self-inside-number c = in_range _ _ _ c.in-Some.number.now (c.self.invariant c.args.id.now) c.in-Some.ensures.value

pub returns : goal.returns
returns c =
    let lt : c.in-Some.number.now < length c.self.inside.stops.now = in_range _ _ _ _ (c.self.invariant c.args.id.now) c.in-Some.ensures.value in
    rw (← c.self.view_is) (sym (slice_get-get_or _ _ _ lt) ∙ stop_at _ _ _ _ (c.self.invariant c.args.id.now) c.in-Some.ensures.value)
