-- Where all vertices are contracted.
use Rattle.std.proofs.Common.{◌≡◌, ◌≢◌, ℕ, true, ◌+◌, ◌<◌, ◌≤◌, ◌==◌, List, [], ◌∷◌, ◌++◌, length, slice_index_or, slice_set, arith, sym, ap, subst, inl, inr, ◌∙◌}
use Rattle.std.specs.Prelude.{All, AllPairs, map}
use Rattle.std.specs.List.{list_any, Any}
use Rattle.std.proofs.lemmas.Bool.{cases_eq, eqb-true}
use Rattle.std.proofs.lemmas.Bool.Decides.{Decides-eqb}
use Rattle.std.proofs.lemmas.List.{get_or-map, get_or-set_same, get_or-set_other, length-append, length-map}
use Rattle.std.proofs.lemmas.List.Folds.{Any-from_list_any}
use Rattle.std.proofs.lemmas.List.Elements.{All-push}
use Rattle.std.proofs.lemmas.List.Quantifiers.{all_pairs_push}
use Rattle.std.proofs.lemmas.Map.Made.{IsDistinct-from_AllPairs}
use Rattle.std.proofs.lemmas.Map.Steps.{length-le_from_distinct_below}
use Rattle.std.proofs.lemmas.Option.{slice_get-get_or}
use Rattle.move_model.specs.declared.network.NodeNo.{NodeNo}
use Rattle.move_model.specs.Streets.{Streets}
use Rattle.walk_laws.specs.declared.CoreArc.{CoreArc}
use Rattle.walk_laws.specs.Sums.{last_rank}
use Rattle.walk_core.specs.Core.{Holds, IsContraction}
use Rattle.walk_core.specs.Ranks.{IsPlaced, IsOrdered, AreRanks}
use Rattle.walk_core.specs.Row.{is_last}
use Rattle.walk_core.specs.Bridge.{view_of}
use Rattle.walk_core.specs.State.{contraction_of, IsClean, IsSound, IsRight, IsStored, AreGone}
use Rattle.walk_core.proofs.CoreLemmas.{left_from_Holds, row_low, IsContraction-from_state}

-- a vertex that is left has no place in the order, so the order has room

module _ (rank : List ℕ) (contracted : List NodeNo) (ordered : IsOrdered rank contracted) (m : ℕ) (left : is_last rank m) (low : m < length rank) where
  abbrev number : NodeNo → ℕ
  number v = v.0

  placed : (k : ℕ) (d : NodeNo) → k < length contracted → IsPlaced rank k (slice_index_or contracted k d)
  placed k d lt = ordered.back k _ (slice_get-get_or contracted k d lt)

  number_at : (k d : ℕ) → k < length (map number contracted) → slice_index_or (map number contracted) k d ≡ (slice_index_or contracted k (record { 0 = d })).0
  number_at k d lt = get_or-map number contracted k (record { 0 = d }) d (omega (arith, lt, length-map contracted number))

  rank_at : (k d : ℕ) → k < length (map number contracted) → slice_index_or rank (slice_index_or (map number contracted) k d) last_rank ≡ k
  rank_at k d lt =
      ap (λ (x : ℕ). slice_index_or rank x last_rank) (number_at k d lt)
      ∙ (placed k (record { 0 = d }) (omega (arith, lt, length-map contracted number))).rank_is

  apart : AllPairs (λ (x y : ℕ). x ≢ y) (map number contracted ++ m ∷ [])
  apart =
      all_pairs_push (λ (x y : ℕ). x ≢ y) (map number contracted) m
      (λ i j d before lt. λ e.
      omega (arith, before, rank_at i d (omega (arith, before, lt)), rank_at j d lt, ap (λ (x : ℕ). slice_index_or rank x last_rank) e))
      (λ k d lt. λ e.
      omega (arith, left, rank_at k d lt, lt, length-map contracted number, ordered.few, ordered.small, ap (λ (x : ℕ). slice_index_or rank x last_rank) e))

  all_low : All (λ (x : ℕ). x < length rank) (map number contracted ++ m ∷ [])
  all_low =
      All-push (λ (x : ℕ). x < length rank) (map number contracted) m
      (λ k d lt.
      let here : IsPlaced rank k (slice_index_or contracted k (record { 0 = d })) = placed k (record { 0 = d }) (omega (arith, lt, length-map contracted number)) in
      omega (arith, here.low, number_at k d lt))
      low

  low_if_found : (q : ℕ) → list_any (λ x. q == x) (map number contracted ++ m ∷ []) ≡ true → q < length rank
  low_if_found q found =
      let any : Any (λ x. (q == x) ≡ true) (map number contracted ++ m ∷ []) = Any-from_list_any (λ x. q == x) (map number contracted ++ m ∷ []) found in
      let same : q ≡ any.1 = eqb-true q any.1 any.4 in
      let lt : slice_index_or (map number contracted ++ m ∷ []) any.0 any.1 < length rank = all_low any.0 any.1 any.2 in
      omega (arith, lt, same, any.3)

  pub room_left : length contracted < length rank
  room_left =
      let le = length-le_from_distinct_below (map number contracted ++ m ∷ []) (length rank) (IsDistinct-from_AllPairs Decides-eqb (map number contracted ++ m ∷ []) apart) low_if_found in
      omega (arith, le, length-append (map number contracted) (m ∷ []), length-map contracted number)

-- one vertex after the other

pub gone_one : (rank rank' : List ℕ) (contracted : List NodeNo) (m : ℕ) → IsOrdered rank contracted → m < length rank → rank' ≡ slice_set rank m (length contracted)
    → ((v : ℕ) → 1 ≤ v → v < m → slice_index_or rank v last_rank < last_rank)
    → (v : ℕ) → 1 ≤ v → v < m + 1 → slice_index_or rank' v last_rank < last_rank
gone_one rank rank' contracted m ordered low is gone v one lt =
    let same : slice_index_or rank' v last_rank ≡ slice_index_or (slice_set rank m (length contracted)) v last_rank = ap (λ (r : List ℕ). slice_index_or r v last_rank) is in
    elim (cases_eq v m) [
      | inl e ↦
          let here : slice_index_or (slice_set rank m (length contracted)) v last_rank ≡ length contracted =
          ap (λ (x : ℕ). slice_index_or (slice_set rank m (length contracted)) x last_rank) e ∙ get_or-set_same rank m (length contracted) last_rank low in
          omega (arith, same, here, ordered.few, ordered.small)
      | inr ne ↦
          let other = get_or-set_other rank m v (length contracted) last_rank ne in
          let was : slice_index_or rank v last_rank < last_rank = gone v one (omega (arith, lt, ne)) in
          omega (arith, same, other, was)
    ]

-- the whole

module _ (nodes : ℕ) (out into out' into' : List (List CoreArc)) (rank rank' : List ℕ) (contracted contracted' : List NodeNo) (many : length rank' ≡ length rank)
    (right : (graph : Streets) → IsRight graph (view_of out into rank) → IsRight graph (view_of out' into' rank')) (sound : IsSound (view_of out' into' rank') contracted')
    (gone : AreGone rank') where
  clean : IsClean (view_of out' into' rank')
  clean =
      record {
        out = λ p q l left arc.
            let fits = sound.built.out_fits in
            let low : p < length rank' = row_low rank' out' p (record { to = record { 0 = q }; seconds = l; middle = record { 0 = arc.0 } }) fits.many arc.1 in
            absurd (omega (arith, left, gone.each p (fits.from_one p q l arc).0 low));
      }

  pub contraction_rest : (graph : Streets) → AreRanks nodes rank contracted → IsContraction graph (contraction_of nodes out into rank contracted)
      → IsContraction graph (contraction_of nodes out' into' rank' contracted')
  contraction_rest graph ranks was =
      let same : graph.nodes ≡ nodes = sym was.nodes in
      let ranks' : AreRanks graph.nodes rank' contracted' = record { many = many ∙ ranks.many ∙ ap (λ (n : ℕ). n + 1) was.nodes; ordered = sound.ordered } in
      subst (λ (n : ℕ). IsContraction graph (contraction_of n out' into' rank' contracted')) same
      (IsContraction-from_state graph was.limits out' into' rank' contracted' ranks' sound clean (right graph (record { keeps = was.keeps; ruled = was.ruled })))

  pub stored_rest : IsStored nodes out into rank contracted → IsStored nodes out' into' rank' contracted'
  stored_rest was =
      record {
        ranks = record { many = many ∙ was.ranks.many; ordered = sound.ordered };
        sound = sound;
        graph = was.graph;
        contraction = contraction_rest was.graph was.ranks was.contraction;
      }

  pub none_rest : AreRanks nodes rank contracted → (v : NodeNo) → Holds (contraction_of nodes out' into' rank' contracted') v → ⊥
  none_rest ranks v holds =
      let ranks' : AreRanks nodes rank' contracted' = record { many = many ∙ ranks.many; ordered = sound.ordered } in
      let left : is_last rank' v.0 = left_from_Holds nodes out' into' rank' contracted' ranks' v holds in
      omega (arith, left, gone.each v.0 holds.from_one (omega (arith, holds.to_nodes, ranks'.many)))
