-- A core of which no vertex is left is a hierarchy.
use Rattle.std.proofs.Common.{◌≡◌, ◌≢◌, ℕ, ◌+◌, ◌-◌, ◌<◌, ◌≤◌, ◌⊎◌, ◌↔◌, Bool, true, false, cond, List, [], length, slice_index_or, slice_set, Option, Some, None, arith, refl, sym, ap, subst, inl, inr, ◌∙◌}
use Rattle.std.specs.Prelude.{All, AllPairs, Contains, slice_get}
use Rattle.std.specs.List.{AllAdjacentBelow}
use Rattle.std.proofs.lemmas.Bool.{cases_eq}
use Rattle.std.proofs.lemmas.List.{get_or-set_same, get_or-set_other}
use Rattle.std.proofs.lemmas.List.Elements.{All-contains}
use Rattle.std.proofs.lemmas.Option.{slice_get_within, slice_get-get_or}
use Rattle.move_model.specs.declared.network.NodeNo.{NodeNo}
use Rattle.move_model.specs.declared.network.Arc.{Arc}
use Rattle.move_model.specs.Streets.{Streets, IsVertex, IsStreets, IsLeastArc, HasDistance}
use Rattle.walk_laws.specs.declared.CoreArc.{CoreArc}
use Rattle.walk_laws.specs.Sums.{IsSum, IsStreet, HasLeast, last_rank}
use Rattle.walk_laws.specs.Sums.IsSum.{none, more}
use Rattle.walk_laws.proofs.SumLemmas.{IsSum-one, IsSum-join}
use Rattle.walk_core.specs.Core.{Contraction, is_contracted, core_row, up_row, down_row, Holds, IsBefore as IsSooner, IsCoreArc, IsArcUp as IsUpInCore, IsArcDown as IsDownInCore, IsWay, IsByMiddle, IsUnfolded, IsContraction}
use Rattle.walk_core.specs.Ranks.{IsPlaced}
use Rattle.walk_core.specs.Row.{is_last}
use Rattle.walk_core.proofs.CoreLemmas.{is_left_or_gone, Holds-from_left}
use Rattle.walk_core.proofs.RestLemmas.{room_left}
use Rattle.walk_hierarchy.specs.declared.arcs.UpDown.{UpDown}
use Rattle.walk_hierarchy.specs.Hierarchy.{Parts, IsNode, rank_of, HasArc, AreRanks, IsArcUp, IsArcDown, IsBefore, IsAdded, IsMade, IsHierarchy, IsLeastStreet, IsOver, IsUpSum, IsDownSum, IsUpDownSum, GivesDistances}
use Rattle.walk_order.specs.declared.arcs.Side.{Side}
use Rattle.walk_order.specs.declared.arcs.Side.TheVariants.{Up, Down}
use Rattle.walk_order.specs.Lists.{row_at, with_ends, IsArcOf, AreArcsOf, AreRanksOf}
use Rattle.walk_order.proofs.ListLemmas.{AreRows}

-- the ends of lists of streets are vertices

module _ (graph : Streets) (streets : IsStreets graph) where
  street_ends : (p q l : ℕ) → IsStreet graph p q l → IsVertex graph (record { 0 = p }) × IsVertex graph (record { 0 = q })
  street_ends p q l street = All-contains (λ (e : Arc). IsVertex graph e.from × IsVertex graph e.to) graph.arcs _ streets.arcs_join street

  sum_begins : {a b m : ℕ} → IsSum (IsStreet graph) a b m → (a ≡ b) ⊎ IsVertex graph (record { 0 = a })
  sum_begins none = inl refl
  sum_begins (more {a = a} {v = v} {l = l} arc rest) = inr (street_ends a v l arc).0

  sum_ends : {a b m : ℕ} → IsSum (IsStreet graph) a b m → (a ≡ b) ⊎ IsVertex graph (record { 0 = b })
  sum_ends none = inl refl
  sum_ends (more {a = a} {v = v} {b = b} {l = l} arc rest) = elim (sum_ends rest) [
    | inl e ↦ inr (subst (λ (x : ℕ). IsVertex graph (record { 0 = x })) e (street_ends a v l arc).1)
    | inr vertex ↦ inr vertex
  ]

kept : (b : Bool) (row : List CoreArc) (x : CoreArc) → Contains (cond b row []) x → Contains row x
kept true row x c = c
kept false row x c = absurd (omega (arith, c.1))

-- the arcs of a core

module _ (graph : Streets) (core : Contraction) (is : IsContraction graph core) where
  sooner_other : (v w : NodeNo) → IsSooner core v w → v.0 ≢ w.0
  sooner_other v w sooner = λ e.
      let there : slice_get core.contracted sooner.place ≡ Some w = sooner.there ∙ ap (λ (x : ℕ). let n : NodeNo = record { 0 = x } in Some n) e in
      omega (arith, sooner.later sooner.place there)

  placed_at : (k : ℕ) (v : NodeNo) → slice_get core.contracted k ≡ Some v → IsPlaced core.ranks k v
  placed_at k v e = is.ranks.ordered.back k v e

  pub sooner_vertex : (v w : NodeNo) → IsSooner core v w → IsVertex graph v
  sooner_vertex v w sooner =
      let placed : IsPlaced core.ranks sooner.place v = placed_at sooner.place v sooner.there in
      record { from_one = placed.from_one; to_nodes = omega (arith, placed.low, is.ranks.many, is.nodes) }

  sooner_at : (side : Side) (v : NodeNo) (half : CoreArc) → Contains (row_at side core v.0) half → IsSooner core v half.to
  sooner_at Up v half c = All-contains (λ (x : CoreArc). IsSooner core v x.to) (up_row core v.0) half (is.arcs.up_later v) c
  sooner_at Down v half c = All-contains (λ (x : CoreArc). IsSooner core v x.to) (down_row core v.0) half (is.arcs.down_later v) c

  vertex_at : (side : Side) (v : NodeNo) (half : CoreArc) → Contains (row_at side core v.0) half → IsVertex graph half.to
  vertex_at Up v half c =
      let sum = is.keeps.real_out v.0 half.to.0 half.seconds (half.middle.0, kept (is_contracted core v.0) (slice_index_or core.arcs_out v.0 []) half c) in
      elim (sum_ends graph is.limits.streets sum) [
        | inl e ↦ absurd (sooner_other v half.to (sooner_at Up v half c) e)
        | inr vertex ↦ vertex
      ]
  vertex_at Down v half c =
      let sum = is.keeps.real_into half.to.0 v.0 half.seconds (half.middle.0, kept (is_contracted core v.0) (slice_index_or core.arcs_into v.0 []) half c) in
      elim (sum_begins graph is.limits.streets sum) [
        | inl e ↦ absurd (sooner_other v half.to (sooner_at Down v half c) (sym e))
        | inr vertex ↦ vertex
      ]

  pub AreRows-of_core : (side : Side) → AreRows side core
  AreRows-of_core Up =
      record {
        few = omega (arith, is.limits.nodes, is.nodes);
        ends = λ v half c. omega (arith, (vertex_at Up v half c).to_nodes, is.nodes);
        apart = is.arcs.up_ends;
      }
  AreRows-of_core Down =
      record {
        few = omega (arith, is.limits.nodes, is.nodes);
        ends = λ v half c. omega (arith, (vertex_at Down v half c).to_nodes, is.nodes);
        apart = is.arcs.down_ends;
      }

  -- one more vertex gets its rank
  pub ranks_more : (ranks : List ℕ) (place : ℕ) (node : NodeNo) → slice_get core.contracted place ≡ Some node → length ranks ≡ core.nodes
      → ((k : ℕ) (v : NodeNo) → k < place → slice_get core.contracted k ≡ Some v → slice_index_or ranks (v.0 - 1) 0 ≡ k)
      → (k : ℕ) (v : NodeNo) → k < place + 1 → slice_get core.contracted k ≡ Some v → slice_index_or (slice_set ranks (node.0 - 1) place) (v.0 - 1) 0 ≡ k
  ranks_more ranks place node at many done k v lt e =
      let here : IsPlaced core.ranks place node = placed_at place node at in
      let there : IsPlaced core.ranks k v = placed_at k v e in
      let low : node.0 - 1 < length ranks = omega (arith, here.from_one, here.low, is.ranks.many, many) in
      elim (cases_eq v.0 node.0) [
        | inl same ↦
            let k_is : k ≡ place = omega (arith, here.rank_is, there.rank_is, ap (λ (x : ℕ). slice_index_or core.ranks x last_rank) same) in
            ap (λ (x : ℕ). slice_index_or (slice_set ranks (node.0 - 1) place) (x - 1) 0) same ∙ get_or-set_same ranks (node.0 - 1) place 0 low ∙ sym k_is
        | inr ne ↦
            let other : v.0 - 1 ≢ node.0 - 1 = λ same. ne (omega (arith, same, here.from_one, there.from_one)) in
            let before : k < place = elim (cases_eq k place) [
              | inl same ↦
                  let nodes : Some v ≡ Some node = sym e ∙ ap (λ (x : ℕ). slice_get core.contracted x) same ∙ at in
                  let one : v ≡ node = cc in
                  absurd (ne (ap (λ (x : NodeNo). x.0) one))
              | inr differs ↦ omega (arith, lt, differs)
            ] in
            get_or-set_other ranks (node.0 - 1) (v.0 - 1) place 0 other ∙ done k v before e
      ]

-- one least number, where the one kind of numbers is the other
least_same : (P Q : ℕ → Type 0) → ((m : ℕ) → P m → Q m) → ((m : ℕ) → Q m → P m) → (r : Option ℕ) → HasLeast P r → HasLeast Q r
least_same P Q f g None never = λ m q. never m (g m q)
least_same P Q f g (Some m) least = record { attained = f m least.attained; least = λ n q. least.least n (g n q) }

-- the whole

module _ (graph : Streets) (core : Contraction) (is : IsContraction graph core) (empty : (v : NodeNo) → Holds core v → ⊥) (h : Parts) (ranks : AreRanksOf core h.ranks)
    (ups : AreArcsOf Up core core.nodes h.up) (downs : AreArcsOf Down core core.nodes h.down) where
  gone : (v : NodeNo) → IsVertex graph v → slice_index_or core.ranks v.0 last_rank < last_rank
  gone v vertex = elim (is_left_or_gone core.ranks core.contracted v.0 is.ranks.ordered) [
    | inl left ↦
        absurd (empty v (Holds-from_left core.nodes core.arcs_out core.arcs_into core.ranks core.contracted is.ranks v vertex.from_one (omega (arith, vertex.to_nodes, is.nodes)) left))
    | inr lt ↦ lt
  ]

  there : (v : NodeNo) → IsVertex graph v → slice_get core.contracted (slice_index_or core.ranks v.0 last_rank) ≡ Some v
  there v vertex = is.ranks.ordered.place v.0 (gone v vertex)

  rank_is : (v : NodeNo) → IsVertex graph v → rank_of h v ≡ slice_index_or core.ranks v.0 last_rank
  rank_is v vertex = ranks.places (slice_index_or core.ranks v.0 last_rank) v (there v vertex)

  zero_left : is_last core.ranks 0
  zero_left = elim (is_left_or_gone core.ranks core.contracted 0 is.ranks.ordered) [
    | inl left ↦ left
    | inr lt ↦
        let placed : IsPlaced core.ranks (slice_index_or core.ranks 0 last_rank) (record { 0 = 0 }) = is.ranks.ordered.back _ (record { 0 = 0 }) (is.ranks.ordered.place 0 lt) in
        absurd (omega (arith, placed.from_one))
  ]

  few : length core.contracted ≤ core.nodes
  few =
      let room = room_left core.ranks core.contracted is.ranks.ordered 0 zero_left (omega (arith, is.ranks.many)) in
      omega (arith, room, is.ranks.many)

  node : (v : NodeNo) → IsVertex graph v → IsNode h v
  node v vertex = record { from_one = vertex.from_one; to_nodes = omega (arith, vertex.to_nodes, is.nodes, ranks.many) }

  vertex_after : (k : ℕ) → k < length h.ranks → IsVertex graph (record { 0 = k + 1 })
  vertex_after k lt = record { from_one = omega arith; to_nodes = omega (arith, lt, is.nodes, ranks.many) }

  rank_after : (k d : ℕ) → k < length h.ranks → slice_index_or h.ranks k d ≡ slice_index_or core.ranks (k + 1) last_rank
  rank_after k d lt =
      let same : slice_index_or h.ranks k d ≡ slice_index_or h.ranks k 0 =
      let one = slice_get-get_or h.ranks k d lt in
      let two = slice_get-get_or h.ranks k 0 lt in
      cc in
      let minus : (k + 1) - 1 ≡ k = omega arith in
      same ∙ ap (λ (n : ℕ). slice_index_or h.ranks n 0) (sym minus) ∙ rank_is (record { 0 = k + 1 }) (vertex_after k lt)

  ranks_once : AllPairs (λ (rank other : ℕ). rank ≢ other) h.ranks
  ranks_once i j d before lt = λ e.
      let i_low : i < length h.ranks = omega (arith, before, lt) in
      let one = there (record { 0 = i + 1 }) (vertex_after i i_low) in
      let two = there (record { 0 = j + 1 }) (vertex_after j lt) in
      let ranks_same : slice_index_or core.ranks (i + 1) last_rank ≡ slice_index_or core.ranks (j + 1) last_rank = sym (rank_after i d i_low) ∙ e ∙ rank_after j d lt in
      let v : NodeNo = record { 0 = i + 1 } in
      let w : NodeNo = record { 0 = j + 1 } in
      let same : Some v ≡ Some w = sym one ∙ ap (λ (k : ℕ). slice_get core.contracted k) ranks_same ∙ two in
      let nodes_same : v ≡ w = cc in
      omega (arith, before, ap (λ (v : NodeNo). v.0) nodes_same)

  are_ranks : AreRanks h.ranks
  are_ranks =
      record {
        below = λ k d lt. omega (arith, rank_after k d lt, slice_get_within core.contracted _ _ (there (record { 0 = k + 1 }) (vertex_after k lt)), few, ranks.many);
        once = ranks_once;
      }

  ranks_rise : (v w : NodeNo) → IsVertex graph w → IsSooner core v w → rank_of h v < rank_of h w
  ranks_rise v w w_vertex sooner =
      let v_is = rank_is v (sooner_vertex graph core is v w sooner) in
      let w_is = rank_is w w_vertex in
      let placed : IsPlaced core.ranks sooner.place v = is.ranks.ordered.back sooner.place v sooner.there in
      omega (arith, v_is, w_is, placed.rank_is, sooner.later _ (there w w_vertex))

  -- arcs

  vertex_of : (side : Side) (arc : UpDown) (of : IsArcOf side core core.nodes arc) → IsVertex graph of.node
  vertex_of side arc of = record { from_one = of.from_one; to_nodes = omega (arith, of.low, is.nodes) }

  arc_up : (arc : UpDown) → IsArcOf Up core core.nodes arc → IsArcUp h arc
  arc_up arc of =
      let to : IsVertex graph of.half.to = vertex_at graph core is Up of.node of.half of.stands in
      subst (λ (x : UpDown). IsArcUp h x) (sym of.is)
      (record {
        from = node of.node (vertex_of Up arc of);
        to = node of.half.to to;
        rises = ranks_rise of.node of.half.to to (sooner_at graph core is Up of.node of.half of.stands);
        short = All-contains (λ (x : CoreArc). x.seconds ≤ 2000000000000) (up_row core of.node.0) of.half (is.arcs.up_short of.node) of.stands;
      })

  arc_down : (arc : UpDown) → IsArcOf Down core core.nodes arc → IsArcDown h arc
  arc_down arc of =
      let from : IsVertex graph of.half.to = vertex_at graph core is Down of.node of.half of.stands in
      subst (λ (x : UpDown). IsArcDown h x) (sym of.is)
      (record {
        from = node of.half.to from;
        to = node of.node (vertex_of Down arc of);
        falls = ranks_rise of.node of.half.to from (sooner_at graph core is Down of.node of.half of.stands);
        short = All-contains (λ (x : CoreArc). x.seconds ≤ 2000000000000) (down_row core of.node.0) of.half (is.arcs.down_short of.node) of.stands;
      })

  up_from_core : (p q l : ℕ) → IsUpInCore core p q l → HasArc h.up p q l
  up_from_core p q l (middle, c) =
      let half : CoreArc = record { to = record { 0 = q }; seconds = l; middle = record { 0 = middle } } in
      let vertex = sooner_vertex graph core is (record { 0 = p }) half.to (sooner_at graph core is Up (record { 0 = p }) half c) in
      (record { 0 = middle }, ups.each (record { 0 = p }) half vertex.from_one (omega (arith, vertex.to_nodes, is.nodes)) c)

  down_from_core : (p q l : ℕ) → IsDownInCore core p q l → HasArc h.down p q l
  down_from_core p q l (middle, c) =
      let half : CoreArc = record { to = record { 0 = p }; seconds = l; middle = record { 0 = middle } } in
      let vertex = sooner_vertex graph core is (record { 0 = q }) half.to (sooner_at graph core is Down (record { 0 = q }) half c) in
      (record { 0 = middle }, downs.each (record { 0 = q }) half vertex.from_one (omega (arith, vertex.to_nodes, is.nodes)) c)

  up_in_core : (p q l : ℕ) → HasArc h.up p q l → IsUpInCore core p q l
  up_in_core p q l (middle, c) =
      let of : IsArcOf Up core core.nodes (record { from = record { 0 = p }; to = record { 0 = q }; seconds = l; middle = middle }) =
      All-contains (IsArcOf Up core core.nodes) h.up _ ups.only c in
      let part : UpDown → CoreArc = λ x. record { to = x.to; seconds = x.seconds; middle = x.middle } in (
        middle.0,
        subst (λ (v : ℕ). Contains (up_row core v) (record { to = record { 0 = q }; seconds = l; middle = middle })) (sym (ap (λ (x : UpDown). x.from.0) of.is))
            (subst (λ (x : CoreArc). Contains (up_row core of.node.0) x) (sym (ap part of.is)) of.stands),
      )

  down_in_core : (p q l : ℕ) → HasArc h.down p q l → IsDownInCore core p q l
  down_in_core p q l (middle, c) =
      let of : IsArcOf Down core core.nodes (record { from = record { 0 = p }; to = record { 0 = q }; seconds = l; middle = middle }) =
      All-contains (IsArcOf Down core core.nodes) h.down _ downs.only c in
      let part : UpDown → CoreArc = λ x. record { to = x.from; seconds = x.seconds; middle = x.middle } in (
        middle.0,
        subst (λ (v : ℕ). Contains (down_row core v) (record { to = record { 0 = p }; seconds = l; middle = middle })) (sym (ap (λ (x : UpDown). x.to.0) of.is))
            (subst (λ (x : CoreArc). Contains (down_row core of.node.0) x) (sym (ap part of.is)) of.stands),
      )

  -- middles

  made_of : (p q : NodeNo) (l : ℕ) (m : NodeNo) → IsVertex graph p → IsVertex graph q → IsUnfolded graph core p q l m → m.0 ≢ 0
      → IsAdded h (record { from = p; to = q; seconds = l; middle = m })
  made_of p q l m p_vertex q_vertex (inl street) ne = absurd (ne street.0)
  made_of p q l m p_vertex q_vertex (inr by) ne =
      record {
        middle = node m (sooner_vertex graph core is m p by.before_from);
        below_from = ranks_rise m p p_vertex by.before_from;
        below_to = ranks_rise m q q_vertex by.before_to;
        l = by.k;
        k = by.n;
        first = down_from_core p.0 m.0 by.k by.down;
        second = up_from_core m.0 q.0 by.n by.up;
        total = sym by.total;
      }

  least_of : (p q : NodeNo) (l : ℕ) (m : NodeNo) → IsUnfolded graph core p q l m → m.0 ≡ 0 → IsLeastArc graph.arcs p q l
  least_of p q l m (inl street) e = street.1
  least_of p q l m (inr by) e = absurd (omega (arith, e, (sooner_vertex graph core is m p by.before_from).from_one))

  unfolded_up : (v : NodeNo) (half : CoreArc) → Contains (up_row core v.0) half → IsUnfolded graph core v half.to half.seconds half.middle
  unfolded_up v half c = All-contains (λ (x : CoreArc). IsUnfolded graph core v x.to x.seconds x.middle) (up_row core v.0) half (is.unfolded.up v) c

  unfolded_down : (v : NodeNo) (half : CoreArc) → Contains (down_row core v.0) half → IsUnfolded graph core half.to v half.seconds half.middle
  unfolded_down v half c = All-contains (λ (x : CoreArc). IsUnfolded graph core x.to v x.seconds x.middle) (down_row core v.0) half (is.unfolded.down v) c

  made_up : (arc : UpDown) → IsArcOf Up core core.nodes arc → IsMade h arc
  made_up arc of =
      subst (λ (x : UpDown). IsMade h x) (sym of.is)
      (made_of of.node of.half.to of.half.seconds of.half.middle (vertex_of Up arc of) (vertex_at graph core is Up of.node of.half of.stands) (unfolded_up of.node of.half of.stands))

  made_down : (arc : UpDown) → IsArcOf Down core core.nodes arc → IsMade h arc
  made_down arc of =
      subst (λ (x : UpDown). IsMade h x) (sym of.is)
      (made_of of.half.to of.node of.half.seconds of.half.middle (vertex_at graph core is Down of.node of.half of.stands) (vertex_of Down arc of) (unfolded_down of.node of.half of.stands))

  pub IsHierarchy-of_core : AllAdjacentBelow IsBefore h.up (length h.up) → AllAdjacentBelow IsBefore h.down (length h.down) → IsHierarchy h
  IsHierarchy-of_core up_order down_order =
      record {
        has_node = omega (arith, is.limits.streets.has_node, is.nodes, ranks.many);
        nodes = omega (arith, is.limits.nodes, is.nodes, ranks.many);
        ranks = are_ranks;
        up = λ k d lt. arc_up _ (ups.only k d lt);
        up_in_order = up_order;
        up_made = λ k d lt. made_up _ (ups.only k d lt);
        down = λ k d lt. arc_down _ (downs.only k d lt);
        down_in_order = down_order;
        down_made = λ k d lt. made_down _ (downs.only k d lt);
      }

  least_up : (arc : UpDown) → IsArcOf Up core core.nodes arc → IsLeastStreet graph arc
  least_up arc of =
      subst (λ (x : UpDown). IsLeastStreet graph x) (sym of.is) (least_of of.node of.half.to of.half.seconds of.half.middle (unfolded_up of.node of.half of.stands))

  least_down : (arc : UpDown) → IsArcOf Down core core.nodes arc → IsLeastStreet graph arc
  least_down arc of =
      subst (λ (x : UpDown). IsLeastStreet graph x) (sym of.is) (least_of of.half.to of.node of.half.seconds of.half.middle (unfolded_down of.node of.half of.stands))

  pub IsOver-of_core : IsOver graph h
  IsOver-of_core =
      record {
        nodes = sym is.nodes ∙ sym ranks.many;
        up = λ k d lt. least_up _ (ups.only k d lt);
        down = λ k d lt. least_down _ (downs.only k d lt);
      }

  -- distances

  no_arc_over : (p q l : ℕ) → IsCoreArc core p q l → ⊥
  no_arc_over p q l (middle, c) =
      empty (record { 0 = p }) (All-contains (λ (x : CoreArc). Holds core (record { 0 = p }) × Holds core x.to) (core_row core p) _ (is.arcs.out_in_core (record { 0 = p })) c).0

  nothing_over : {a b m : ℕ} → IsSum (IsCoreArc core) a b m → (a ≡ b) × (m ≡ 0)
  nothing_over none = (refl, refl)
  nothing_over (more {a = a} {v = v} {l = l} arc rest) = absurd (no_arc_over a v l arc)

  sum_from_way : (a b : NodeNo) (m : ℕ) → IsWay core a.0 b.0 m → IsUpDownSum h a b m
  sum_from_way a b m way =
      let over = nothing_over way.over in
      record {
        top = way.top;
        l = way.l;
        k = way.n;
        up = IsSum-join (λ p q l arc. IsSum-one (up_from_core p q l arc)) way.up;
        down = IsSum-join (λ p q l arc. IsSum-one (down_from_core p q l arc)) (subst (λ (x : ℕ). IsSum (IsDownInCore core) x b.0 way.n) (sym over.0) way.down);
        total = omega (arith, way.all, over.1);
      }

  way_from_sum : (a b : NodeNo) (m : ℕ) → IsUpDownSum h a b m → IsWay core a.0 b.0 m
  way_from_sum a b m sum =
      record {
        top = sum.top;
        bend = sum.top;
        l = sum.l;
        k = 0;
        n = sum.k;
        up = IsSum-join (λ p q l arc. IsSum-one (up_in_core p q l arc)) sum.up;
        over = none;
        down = IsSum-join (λ p q l arc. IsSum-one (down_in_core p q l arc)) sum.down;
        all = omega (arith, sum.total);
      }

  pub GivesDistances-of_core : GivesDistances graph h
  GivesDistances-of_core =
      record {
        nodes = sym is.nodes ∙ sym ranks.many;
        distances = λ a b r a_vertex b_vertex.
            let both = is.distances a b r a_vertex in (
              λ least. both.0 (least_same (IsUpDownSum h a b) (IsWay core a.0 b.0) (way_from_sum a b) (sum_from_way a b) r least),
              λ distance. least_same (IsWay core a.0 b.0) (IsUpDownSum h a b) (sum_from_way a b) (way_from_sum a b) r (both.1 distance),
            );
      }
