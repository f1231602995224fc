use Rattle.std.proofs.Common.{◌≡◌, ◌+◌, ◌++◌, ℕ, List, sym, ap, ◌∙◌, append_assoc, arith}
use Rattle.std.specs.List.{flat_map, range_with_len}
use Rattle.move_model.specs.declared.network.Trip.{Trip}
use Rattle.city_maker.specs.declared.line.Line.{Line}
use Rattle.city_maker.specs.Lines.{trips_at, trips_of}
use Rattle.city_maker.proofs.Ranges.{flat_map_range_more}
use Rattle.city_maker.proofs.trips.put_trips.Goals as goal

pub loop-number-preserved : goal.loop-number-preserved
loop-number-preserved c =
    let pair = trips_at c.args.side c.args.line in
    let n = c.loop-number.number in
    c.in_ok-put_pair.ensures
    ∙ ap (λ (xs : List Trip). xs ++ pair n) c.loop-number.invariant
    ∙ append_assoc c.args.trips.now.items (flat_map pair (range_with_len 0 n)) (pair n)
    ∙ ap (λ (xs : List Trip). c.args.trips.now.items ++ xs) (sym (flat_map_range_more pair 0 n ∙ ap (λ (m : ℕ). flat_map pair (range_with_len 0 n) ++ pair m) (let e : 0 + n ≡ n = omega arith in e)))

whole : (side : ℕ) (line : Line) (n : ℕ) → n ≡ 48 → flat_map (trips_at side line) (range_with_len 0 n) ≡ trips_of side line
unfolding trips_of
whole side line n e = ap (λ (m : ℕ). flat_map (trips_at side line) (range_with_len 0 m)) e

pub returns : goal.returns
returns c =
    c.loop-number.invariant ∙ ap (λ (xs : List Trip). c.args.trips.now.items ++ xs) (whole c.args.side c.args.line c.loop-number.number (omega arith))
