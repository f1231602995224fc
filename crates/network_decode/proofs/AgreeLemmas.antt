-- Values whose first sections stand in front of one body.
--     AgreeAt j c d              section j tells the same of both values
--     Agree k c d                so do the first k sections
use Rattle.std.proofs.Common.{◌≡◌, ◌∙◌, ℕ, zero, suc, ◌^◌, ◌<◌, ◌≤◌, List, [], ◌++◌, length, get_or, Option, sym, ap, subst, inl, inr, arith}
use Rattle.std.proofs.lemmas.Bool.{cases_lt}
use Rattle.move_model.specs.declared.network.Network.{Network}
use Rattle.walk_hierarchy.specs.Hierarchy.{Parts}
use Rattle.network_file.specs.declared.compiled.Compiled.{Compiled}
use Rattle.network_bytes.proofs.Codec.{IsCodec, some_is}
use Rattle.network_codec.specs.declared.version.Version.{Version}
use Rattle.network_codec.specs.Form.{sections}
use Rattle.network_codec.specs.Rules.{streets_alone, graph_of, AreStreets, AreStops, AreRanksOf, AreUp, KeepsSections}
use Rattle.network_codec.specs.File.{Begins}
use Rattle.network_sections.specs.Network.{with_stops, streets_at}
use Rattle.network_sections.proofs.SectionCodecs.{ranks_codec, ranks_fit, arcs_codec, arcs_fit, arcs_down_fit, buckets_codec, buckets_fit, shortcuts_codec, shortcuts_fit}
use Rattle.network_sections.proofs.NetworkCodecs.{streets_again, stops_codec, stops_fit, trips_codec, trips_fit}
use Rattle.network_decode.proofs.ChainLemmas.{shorter}

abbrev pub AgreeAt : ℕ → Compiled → Compiled → Type 0
AgreeAt zero c d = Unit {0}
AgreeAt (suc zero) c d = streets_alone c.network ≡ streets_alone d.network
AgreeAt (suc (suc zero)) c d = c.network.stops ≡ d.network.stops
AgreeAt (suc (suc (suc zero))) c d = c.network.trips ≡ d.network.trips
AgreeAt (suc (suc (suc (suc zero)))) c d = c.hierarchy.ranks ≡ d.hierarchy.ranks
AgreeAt (suc (suc (suc (suc (suc zero))))) c d = c.hierarchy.up ≡ d.hierarchy.up
AgreeAt (suc (suc (suc (suc (suc (suc zero)))))) c d = c.hierarchy.down ≡ d.hierarchy.down
AgreeAt (suc (suc (suc (suc (suc (suc (suc zero))))))) c d = c.buckets.to ≡ d.buckets.to
AgreeAt (suc (suc (suc (suc (suc (suc (suc (suc zero)))))))) c d = c.buckets.from ≡ d.buckets.from
AgreeAt (suc (suc (suc (suc (suc (suc (suc (suc (suc zero))))))))) c d = c.shortcuts ≡ d.shortcuts
AgreeAt (suc (suc (suc (suc (suc (suc (suc (suc (suc (suc n)))))))))) c d = Unit {0}

abbrev pub Agree : ℕ → Compiled → Compiled → Type 0
Agree k c d = (j : ℕ) → 1 ≤ j → j ≤ k → AgreeAt j c d

agree_more : (k : ℕ) (c d : Compiled) → Agree k c d → AgreeAt (suc k) c d → Agree (suc k) c d
agree_more k c d before here = λ j some le. elim (cases_lt j (suc k)) [
  | inl lt ↦ before j some (omega arith)
  | inr ge ↦ subst (λ (n : ℕ). AgreeAt n c d) (let e : suc k ≡ j = omega arith in e) here
]

-- one form in front of the same bytes
same_front : {X : Type 0} {form : X → List ℕ} {Fits : X → Type 0} {front : List ℕ → Option (X × List ℕ)} → IsCodec form Fits front → (x y : X) (r s : List ℕ)
    → Fits x → Fits y → form x ++ r ≡ form y ++ s → (x ≡ y) × (r ≡ s)
same_front {X} {form} {Fits} {front} codec x y r s x_fits y_fits e =
    let p = some_is (x, r) (y, s) (sym (codec.again x r x_fits) ∙ (ap front e ∙ codec.again y s y_fits)) in
    (ap (λ (z : X × List ℕ). z.0) p, ap (λ (z : X × List ℕ). z.1) p)

-- what the rules say of the counts

few_nodes : (v : Version) (n : Network) → AreStreets v n → n.nodes ≤ 2000000
few_nodes v n are = are.keep.has_nodes.1

few_ranks : (v : Version) (c : Compiled) → AreStreets v c.network → AreRanksOf c.network.nodes c.hierarchy.ranks → length c.hierarchy.ranks ≤ 2000000
few_ranks v c streets ranks = omega (arith, few_nodes v c.network streets, ranks.one_each)

pub with_own_stops : (n : Network) → AreStops n → AreStops (with_stops n n.stops)
with_own_stops n are = record { few = are.few; named = are.named; differ = are.differ; keep = are.keep }

pub up_of : (h : Parts) → AreUp h → AreUp (record { ranks = h.ranks; up = h.up; down = [] })
up_of h are = record { counted = are.counted; rise = are.rise; middles = are.middles }

pub nodes_are : (c d : Compiled) → AgreeAt 1 c d → c.network.nodes ≡ d.network.nodes
nodes_are c d e = ap (λ (n : Network). n.nodes) e

pub many_are : (c d : Compiled) → AgreeAt 2 c d → length c.network.stops ≡ length d.network.stops
many_are c d e = ap length e

-- ---- section by section

abbrev Step : ℕ → Type 0
Step k = (v : Version) (c d : Compiled) (r s : List ℕ) → Agree k c d → KeepsSections (suc k) v c → KeepsSections (suc k) v d
    → get_or (sections v c) k [] ++ r ≡ get_or (sections v d) k [] ++ s → AgreeAt (suc k) c d × (r ≡ s)

step-streets : Step 0
step-streets v c d r s agree p q e =
    let pair = some_is (streets_alone c.network, r) (streets_alone d.network, s)
    (sym (streets_again v c.network r (p.streets (omega arith))) ∙ (ap (streets_at v) e ∙ streets_again v d.network s (q.streets (omega arith)))) in
    (ap (λ (z : Network × List ℕ). z.0) pair, ap (λ (z : Network × List ℕ). z.1) pair)

step-stops : Step 1
step-stops v c d r s agree p q e =
    same_front stops_codec c.network.stops d.network.stops r s (stops_fit c.network c.network.stops (with_own_stops c.network (p.stops (omega arith))))
    (stops_fit d.network d.network.stops (with_own_stops d.network (q.stops (omega arith)))) e

step-trips : Step 2
step-trips v c d r s agree p q e =
    same_front trips_codec c.network.trips d.network.trips r s (trips_fit c.network c.network.trips (p.stops (omega arith)).few (p.trips (omega arith)))
    (trips_fit d.network d.network.trips (q.stops (omega arith)).few (q.trips (omega arith))) e

step-ranks : Step 3
step-ranks v c d r s agree p q e =
    let few : c.network.nodes < 2 ^ 32 = omega (arith, few_nodes v c.network (p.streets (omega arith))) in
    let nodes : c.network.nodes ≡ d.network.nodes = nodes_are c d (agree 1 (omega arith) (omega arith)) in
    same_front (ranks_codec c.network.nodes) c.hierarchy.ranks d.hierarchy.ranks r s (ranks_fit c.network.nodes c.hierarchy.ranks few (p.ranks (omega arith)))
    (ranks_fit c.network.nodes d.hierarchy.ranks few (subst (λ (n : ℕ). AreRanksOf n d.hierarchy.ranks) (sym nodes) (q.ranks (omega arith)))) e

step-up : Step 4
step-up v c d r s agree p q e =
    same_front arcs_codec c.hierarchy.up d.hierarchy.up r s
    (arcs_fit c.hierarchy.ranks c.hierarchy.up (few_ranks v c (p.streets (omega arith)) (p.ranks (omega arith))) (up_of c.hierarchy (p.up (omega arith))))
    (arcs_fit d.hierarchy.ranks d.hierarchy.up (few_ranks v d (q.streets (omega arith)) (q.ranks (omega arith))) (up_of d.hierarchy (q.up (omega arith)))) e

step-down : Step 5
step-down v c d r s agree p q e =
    same_front arcs_codec c.hierarchy.down d.hierarchy.down r s
    (arcs_down_fit (graph_of c.network) c.hierarchy (few_ranks v c (p.streets (omega arith)) (p.ranks (omega arith))) (p.down (omega arith)))
    (arcs_down_fit (graph_of d.network) d.hierarchy (few_ranks v d (q.streets (omega arith)) (q.ranks (omega arith))) (q.down (omega arith))) e

step-to : Step 6
step-to v c d r s agree p q e =
    same_front buckets_codec c.buckets.to d.buckets.to r s
    (buckets_fit c.network.nodes (length c.network.stops) c.buckets.to (few_nodes v c.network (p.streets (omega arith))) (p.stops (omega arith)).few (p.to (omega arith)))
    (buckets_fit d.network.nodes (length d.network.stops) d.buckets.to (few_nodes v d.network (q.streets (omega arith))) (q.stops (omega arith)).few (q.to (omega arith))) e

step-from : Step 7
step-from v c d r s agree p q e =
    same_front buckets_codec c.buckets.from d.buckets.from r s
    (buckets_fit c.network.nodes (length c.network.stops) c.buckets.from (few_nodes v c.network (p.streets (omega arith))) (p.stops (omega arith)).few (p.from (omega arith)))
    (buckets_fit d.network.nodes (length d.network.stops) d.buckets.from (few_nodes v d.network (q.streets (omega arith))) (q.stops (omega arith)).few (q.from (omega arith))) e

step-shortcuts : Step 8
step-shortcuts v c d r s agree p q e =
    same_front shortcuts_codec c.shortcuts d.shortcuts r s (shortcuts_fit (length c.network.stops) c.shortcuts (p.stops (omega arith)).few (p.shortcuts (omega arith)))
    (shortcuts_fit (length d.network.stops) d.shortcuts (q.stops (omega arith)).few (q.shortcuts (omega arith))) e

step : (k : ℕ) → k < 9 → Step k
step zero lt = step-streets
step (suc zero) lt = step-stops
step (suc (suc zero)) lt = step-trips
step (suc (suc (suc zero))) lt = step-ranks
step (suc (suc (suc (suc zero)))) lt = step-up
step (suc (suc (suc (suc (suc zero))))) lt = step-down
step (suc (suc (suc (suc (suc (suc zero)))))) lt = step-to
step (suc (suc (suc (suc (suc (suc (suc zero))))))) lt = step-from
step (suc (suc (suc (suc (suc (suc (suc (suc zero)))))))) lt = step-shortcuts
step (suc (suc (suc (suc (suc (suc (suc (suc (suc n))))))))) lt = absurd (omega arith)

pub agree : (k : ℕ) (v : Version) (c d : Compiled) (body r s : List ℕ) → k ≤ 9 → Begins k v c body r → Begins k v d body s → Agree k c d × (r ≡ s)
agree zero v c d body r s le p q = (λ j some none. absurd (omega arith), sym p.parts ∙ q.parts)
agree (suc k) v c d body r s le p q =
    let lt : k < 9 = omega arith in
    let before = agree k v c d body (get_or (sections v c) k [] ++ r) (get_or (sections v d) k [] ++ s) (omega arith) (shorter k v c body r lt p) (shorter k v d body s lt q) in
    let here = step k lt v c d r s before.0 p.rules q.rules before.1 in
    (agree_more k c d before.0 here.0, here.1)
