-- Arcs that are made of two others.
use Rattle.std.proofs.Common.{◌≡◌, ℕ, ◌+◌, List, arith}
use Rattle.std.specs.Prelude.{slice_index_or}
use Rattle.walk_hierarchy.specs.declared.arcs.UpDown.{UpDown}
use Rattle.network_rules.specs.Rules.{AreInOrder}
use Rattle.network_shape.specs.Search.{StandsAt}
use Rattle.network_shape.specs.Made.{AddsUp}
use Rattle.network_shape.proofs.OrderLemmas.{has_arc, only_arc}

pub adds_up : (up down : List UpDown) (arc : UpDown) (i j : ℕ) (d : UpDown) → StandsAt down arc.from arc.middle i → StandsAt up arc.middle arc.to j
    → (slice_index_or down i d).seconds + (slice_index_or up j d).seconds ≡ arc.seconds → AddsUp up down arc
adds_up up down arc i j d first second total = record {
  l = (slice_index_or down i d).seconds;
  k = (slice_index_or up j d).seconds;
  first = has_arc down arc.from arc.middle i d first;
  second = has_arc up arc.middle arc.to j d second;
  total = total;
}

pub adds : (up down : List UpDown) (arc : UpDown) (i j : ℕ) (d : UpDown) → AreInOrder up → AreInOrder down → StandsAt down arc.from arc.middle i → StandsAt up arc.middle arc.to j
    → AddsUp up down arc → (slice_index_or down i d).seconds + (slice_index_or up j d).seconds ≡ arc.seconds
adds up down arc i j d up_order down_order first second sum =
    let l : sum.l ≡ (slice_index_or down i d).seconds = only_arc down arc.from arc.middle i d sum.l down_order first sum.first in
    let k : sum.k ≡ (slice_index_or up j d).seconds = only_arc up arc.middle arc.to j d sum.k up_order second sum.second in
    omega (arith, l, k, sum.total)
