-- That the vertices of placed stops are vertices, and what the table gives.
use Rattle.std.proofs.Common.{◌≡◌, ◌-◌, ◌<◌, ◌≤◌, ℕ, ℤ, zero, suc, List, [], ◌∷◌, length, Option, Some, None, refl, sym, subst, arith}
use Rattle.std.specs.Prelude.{slice_get, option_map, All, IfSome}
use Rattle.std.proofs.lemmas.Option.{slice_get_within, get_or_from_slice_get}
use Rattle.gtfs_feed.specs.declared.feed.FeedStop.{FeedStop}
use Rattle.move_model.specs.declared.network.NodeNo.{NodeNo}
use Rattle.move_model.specs.declared.network.Stop.{Stop}
use Rattle.stop_places.specs.declared.given.Given.{Given}
use Rattle.stop_places.specs.declared.near.Near.{Near}
use Rattle.stop_places.specs.Given.{vertex_at, vertex_in}
use Rattle.stop_places.specs.Places.{IsNearPlace, IsPlaceBy, ArePlaced}

-- a vertex of a graph of so many
abbrev pub Stands : ℕ → NodeNo → Type 0
Stands nodes v = (1 ≤ v.0) × (v.0 ≤ nodes)

pub there : {X : Type 0} (xs : List X) (k : ℕ) → k < length xs → (x : X) × (slice_get xs k ≡ Some x)
there [] k lt = absurd (omega arith)
there (x ∷ xs) zero lt = (x, refl)
there (x ∷ xs) (suc k) lt = there xs k (omega arith)

near-stands : (nodes : ℕ) (near : Option Near) (lat lon : Option ℤ) (v : NodeNo) → IfSome near (λ near. length near.grid.now ≡ nodes) → IsNearPlace near lat lon (Some v) → Stands nodes v
near-stands nodes None lat lon v l p = cc p
near-stands nodes (Some n) None lon v l p = cc p
near-stands nodes (Some n) (Some a) None v l p = cc p
near-stands nodes (Some n) (Some a) (Some b) v l p =
    let lt = slice_get_within n.grid.now (v.0 - 1) p.point p.stands.1 in
    (p.stands.0, omega (arith, lt, l, p.stands.0))

by-stands : (nodes : ℕ) (o : Option NodeNo) (near : Option Near) (stop : FeedStop) (v : NodeNo) → IfSome o (Stands nodes) → IfSome near (λ near. length near.grid.now ≡ nodes)
    → IsPlaceBy o near stop (Some v) → Stands nodes v
by-stands nodes None near stop v h l p = near-stands nodes near stop.lat stop.lon v l p
by-stands nodes (Some w) near stop v h l p = let same : w ≡ v = cc p in subst (Stands nodes) same h

-- the placed stops stand at vertices
pub all_stand : (nodes : ℕ) (vertex_of : List ℕ → Option NodeNo) (near : Option Near) (stops : List FeedStop) (placed : List Stop) → ((id : List ℕ) → IfSome (vertex_of id) (Stands nodes))
    → IfSome near (λ near. length near.grid.now ≡ nodes) → ArePlaced vertex_of near stops placed → All (λ stop. Stands nodes stop.node) placed
all_stand nodes vertex_of near stops placed given l p = λ k d lt.
    let s = there stops k (omega (arith, lt, p.as_many)) in
    let a = there placed k lt in
    let at_place = p.each k s.0 a.0 s.1 a.1 in
    let is = get_or_from_slice_get placed k a.0 d a.1 in
    subst (λ (stop : Stop). Stands nodes stop.node) (sym is) (by-stands nodes (vertex_of s.0.name) near s.0 a.0.node (given s.0.name) l at_place.stands)

abbrev numbered : ℕ → NodeNo
numbered n = record { 0 = n }

item-stands : (nodes : ℕ) (ns : List ℕ) (k : ℕ) (o : Option ℕ) → slice_get ns k ≡ o → All (λ n. (1 ≤ n) × (n ≤ nodes)) ns → IfSome (option_map numbered o) (Stands nodes)
item-stands nodes ns k None e a = tt
item-stands nodes ns k (Some n) e a = subst (λ m. (1 ≤ m) × (m ≤ nodes)) (get_or_from_slice_get ns k n 0 e) (a k 0 (slice_get_within ns k n e))

at-stands : (nodes : ℕ) (ns : List ℕ) (o : Option ℕ) → All (λ n. (1 ≤ n) × (n ≤ nodes)) ns → IfSome (vertex_at ns o) (Stands nodes)
at-stands nodes ns None a = tt
at-stands nodes ns (Some k) a = item-stands nodes ns k (slice_get ns k) refl a

-- the vertices that rows give are vertices
pub given_stand : (nodes : ℕ) (given : Given) (id : List ℕ) → All (λ n. (1 ≤ n) × (n ≤ nodes)) given.nodes → IfSome (vertex_in given id) (Stands nodes)
given_stand nodes given id a = at-stands nodes given.nodes _ a
