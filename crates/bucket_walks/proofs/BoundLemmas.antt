-- Sums of arcs up and of arcs down: where they lead, and how many seconds they have at most.
use Rattle.std.proofs.Common.{◌+◌, ◌-◌, ◌*◌, ◌<◌, ◌≤◌, ℕ, length, arith}
use Rattle.std.proofs.lemmas.List.Elements.{All-contains, All-get_or}
use Rattle.walk_laws.specs.Sums.{longest}
use Rattle.walk_laws.specs.Sums.IsSum.{none, more}
use Rattle.walk_hierarchy.specs.Hierarchy.{Parts, IsNode, HasArc, IsArcUp, IsArcDown, IsHierarchy, IsUpSum, IsDownSum, rank_of}

module _ (h : Parts) (rules : IsHierarchy h) where
  pub arc_up : (p q l : ℕ) → HasArc h.up p q l → IsArcUp h (record { from = record { 0 = p }; to = record { 0 = q }; seconds = l; middle = record { 0 = 0 } })
  arc_up p q l arc =
      let is : IsArcUp h (record { from = record { 0 = p }; to = record { 0 = q }; seconds = l; middle = arc.0 }) =
      All-contains (IsArcUp h) h.up (record { from = record { 0 = p }; to = record { 0 = q }; seconds = l; middle = arc.0 }) rules.up arc.1 in
      record { from = is.from; to = is.to; rises = is.rises; short = is.short }

  pub arc_down : (p q l : ℕ) → HasArc h.down p q l → IsArcDown h (record { from = record { 0 = p }; to = record { 0 = q }; seconds = l; middle = record { 0 = 0 } })
  arc_down p q l arc =
      let is : IsArcDown h (record { from = record { 0 = p }; to = record { 0 = q }; seconds = l; middle = arc.0 }) =
      All-contains (IsArcDown h) h.down (record { from = record { 0 = p }; to = record { 0 = q }; seconds = l; middle = arc.0 }) rules.down arc.1 in
      record { from = is.from; to = is.to; falls = is.falls; short = is.short }

  pub rank_low : (v : ℕ) → IsNode h (record { 0 = v }) → rank_of h (record { 0 = v }) ≤ 2000000
  rank_low v is =
      omega (arith, All-get_or (λ (rank : ℕ). rank < length h.ranks) h.ranks (v - 1) 0 (omega (arith, is.from_one, is.to_nodes)) rules.ranks.below, rules.nodes)

  pub up_end : {a b m : ℕ} → IsNode h (record { 0 = a }) → IsUpSum h a b m → IsNode h (record { 0 = b })
  up_end is none = is
  up_end is (more {a = a} {v = v} {l = l} first rest) = up_end (arc_up a v l first).to rest

  pub down_begin : {a b m : ℕ} → IsNode h (record { 0 = b }) → IsDownSum h a b m → IsNode h (record { 0 = a })
  down_begin is none = is
  down_begin is (more {a = a} {v = v} {l = l} first rest) = (arc_down a v l first).from

  up_ranked : {a b m : ℕ} → IsUpSum h a b m → m + longest * rank_of h (record { 0 = a }) ≤ longest * rank_of h (record { 0 = b })
  up_ranked none = omega arith
  up_ranked {a} {b} {m} (more {v = v} {l = l} {m = n} first rest) =
      omega (arith, up_ranked rest, (arc_up a v l first).rises, (arc_up a v l first).short)

  down_ranked : {a b m : ℕ} → IsDownSum h a b m → m + longest * rank_of h (record { 0 = b }) ≤ longest * rank_of h (record { 0 = a })
  down_ranked none = omega arith
  down_ranked {a} {b} {m} (more {v = v} {l = l} {m = n} first rest) =
      omega (arith, down_ranked rest, (arc_down a v l first).falls, (arc_down a v l first).short)

  pub up_few : {a b m : ℕ} → IsNode h (record { 0 = a }) → IsUpSum h a b m → m ≤ 4000000000000000000
  up_few {a} {b} {m} is sum = omega (arith, up_ranked sum, rank_low b (up_end is sum))

  pub down_few : {a b m : ℕ} → IsNode h (record { 0 = b }) → IsDownSum h a b m → m ≤ 4000000000000000000
  down_few {a} {b} {m} is sum = omega (arith, down_ranked sum, rank_low a (down_begin is sum))
