use Rattle.std.proofs.Common.{◌≡◌, ◌+◌, ◌-◌, ◌++◌, ℕ, List, length, sym, ap, ◌∙◌, arith, length-append}
use Rattle.std.specs.List.{flat_map, range_with_len, enumerate_from}
use Rattle.city_maker.specs.Streets.{Street, streets_from, both_ways}
use Rattle.city_maker.proofs.StreetLists.{few_streets, streets_more, arcs_more}
use Rattle.city_maker.proofs.streets.city_arcs.Goals as goal

pub loop-v-preserved : goal.loop-v-preserved
loop-v-preserved c =
    let side = c.args.side in
    let v = c.loop-v.v in
    let seed = c.args.draws.now.number in
    let first = c.args.draws.now.made in
    let before = flat_map (streets_from side) (range_with_len 1 (v - 1)) in
    let more : flat_map (streets_from side) (range_with_len 1 (v + 1 - 1)) ≡ before ++ streets_from side v = streets_more side v (omega arith) in
    let longer : length (flat_map (streets_from side) (range_with_len 1 (v + 1 - 1))) ≡ length before + length (streets_from side v) =
    ap length more ∙ length-append before (streets_from side v) in
    let arcs =
    c.in_ok-put_streets.ensures.arcs
    ∙ ap (λ (s : ℕ). c.loop-v.arcs.items ++ flat_map (both_ways s) (enumerate_from c.loop-v.draws.made (streets_from side v))) c.loop-v.invariant.1
    ∙ ap (λ (m : ℕ). c.loop-v.arcs.items ++ flat_map (both_ways seed) (enumerate_from m (streets_from side v))) c.loop-v.invariant.2
    ∙ arcs_more seed first c.loop-v.arcs.items before (streets_from side v) c.loop-v.invariant.0
    ∙ ap (λ (xs : List Street). flat_map (both_ways seed) (enumerate_from first xs)) (sym more)
    in (
      arcs,
      c.in_ok-put_streets.ensures.number ∙ c.loop-v.invariant.1,
      omega (arith, longer, c.in_ok-put_streets.ensures.made, c.loop-v.invariant.2),
      omega (arith, longer, few_streets side v, c.loop-v.invariant.3),
    )
