-- What the arcs of a contraction stand for.
--     HasMiddle w p q l middle       an arc down from p to the middle and an arc up from there to q have l seconds together
--     IsRuled graph w p q l middle   the arc from p to q is a least street, or one with such a middle
--     Ruled graph w                  the rule on middles: all arcs out and in are such arcs
use Rattle.std.specs.Prelude.{◌≡◌, ℕ, ◌+◌, ◌<◌, ◌⊎◌, [], slice_index_or, Contains}
use Rattle.move_model.specs.Streets.{Streets, IsLeastArc}
use Rattle.walk_laws.specs.declared.CoreArc.{CoreArc}
use Rattle.walk_laws.specs.Sums.{View, HasArc, rank_of}

-- The two arcs that an arc with a middle stands for. Their rows never change again.
pub record HasMiddle (w : View) (p q l middle : ℕ) : Type 0 where
  pub below_from : rank_of w middle < rank_of w p
  pub below_to : rank_of w middle < rank_of w q
  pub k : ℕ
  pub n : ℕ
  pub down : HasArc w.into middle p k
  pub up : HasArc w.out middle q n
  pub total : l ≡ k + n

-- a least street, or an arc with a middle
abbrev pub IsRuled : Streets → View → ℕ → ℕ → ℕ → ℕ → Type 0
IsRuled graph w p q l middle = ((middle ≡ 0) × IsLeastArc graph.arcs (record { 0 = p }) (record { 0 = q }) l) ⊎ HasMiddle w p q l middle

-- the rule on middles
pub record Ruled (graph : Streets) (w : View) : Type 0 where
  pub out : (p : ℕ) (z : CoreArc) → Contains (slice_index_or w.out p []) z → IsRuled graph w p z.to.0 z.seconds z.middle.0
  pub into : (q : ℕ) (z : CoreArc) → Contains (slice_index_or w.into q []) z → IsRuled graph w z.to.0 q z.seconds z.middle.0
