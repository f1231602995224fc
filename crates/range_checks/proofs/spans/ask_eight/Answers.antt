use Rattle.std.proofs.Common.{◌≡◌, ℕ, ◌+◌, ◌*◌, ◌/◌, ◌≤◌, length, refl, sym, subst, arith}
use Rattle.move_model.specs.Range.{AreDepartures}
use Rattle.range_checks.proofs.spans.ask_eight.Goals as goal

twice : (limit routes many start opens : ℕ) → limit ≡ 1 → routes ≡ 1 → many ≡ 9 → opens ≤ start + limit * routes * ((many + 7) / 8) → opens ≤ start + 2
twice limit routes many start opens one_ride one_route nine was =
    let e : limit * routes * ((many + 7) / 8) ≡ 2 = rw (one_ride, one_route, nine) refl in
    omega (arith, e, was)

pub returns : goal.returns
returns g c n ds trips_are buffer_is are one_route nine =
    let row = c.args.walks.now.first in
    twice c.of.result.limit (length c.args.table.now.routes) (length ds) c.args.opens.now c.answer.new.opens c.of.ensures.limit one_route nine
    (c.answer.ensures.counted n ds trips_are buffer_is
    (subst (λ d. AreDepartures n row d c.of.result.last ds) (sym c.of.ensures.first)
    (subst (λ d. AreDepartures n row 27000 d ds) (sym c.of.ensures.last) are)))
