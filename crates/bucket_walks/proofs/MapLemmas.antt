-- Mapped lists: their elements, their order, and the arcs past the vertices.
use Rattle.std.proofs.Common.{◌≡◌, ◌∙◌, ◌+◌, ◌<◌, ◌≤◌, ◌↔◌, ℕ, List, [], ◌∷◌, length, get_or, map, sym, ap, subst, inl, inr, arith}
use Rattle.std.specs.Prelude.{Contains}
use Rattle.std.specs.List.{AllAdjacentBelow}
use Rattle.std.specs.List.Sorted.{IsNonDecreasing, IsNonDecreasingBy, IsPermutation}
use Rattle.std.proofs.lemmas.List.{get_or-map, length-map}
use Rattle.std.proofs.lemmas.List.Elements.{Contains-get_or}
use Rattle.std.proofs.lemmas.List.Sorted.{IsNonDecreasingBy-from_all_adjacent, IsPermutation-sym, Contains-permutation}
use Rattle.walk_hierarchy.specs.declared.arcs.UpDown.{UpDown}
use Rattle.walk_hierarchy.specs.Hierarchy.{Parts, HasArc}
use Rattle.bucket_walks.specs.declared.bucket.Bucket.{Bucket}
use Rattle.bucket_walks.specs.declared.bypasses.Side.{Side}
use Rattle.bucket_walks.specs.declared.bypasses.Side.TheVariants.{To, From}
use Rattle.bucket_walks.specs.declared.bypasses.Bypass.{Bypass}
use Rattle.bucket_walks.specs.Starts.{nodes_of}
use Rattle.bucket_walks.specs.Buckets.{IsBefore}
use Rattle.bucket_walks.specs.Gathered.{arcs_of, bypass_of, leads_over}

map_has : {X Y : Type 0} (f : X → Y) (xs : List X) (y : Y) → Contains (map f xs) y → (x : X) × (Contains xs x × (f x ≡ y))
map_has f [] y has = absurd (omega (arith, has.1))
map_has {X} f (x ∷ xs) y has =
    let ys : List X = x ∷ xs in
    let low : has.0 < length ys = omega (arith, has.1, length-map ys f) in
    (get_or ys has.0 x, (Contains-get_or ys has.0 x low, sym (get_or-map f ys has.0 x y low) ∙ has.2))

map_contains : {X Y : Type 0} (f : X → Y) (xs : List X) (x : X) → Contains xs x → Contains (map f xs) (f x)
map_contains f xs x has = (has.0, omega (arith, has.1, length-map xs f), get_or-map f xs has.0 x (f x) has.1 ∙ ap f has.2)

pub map_rises : {X : Type 0} (key : X → ℕ) (xs : List X) → IsNonDecreasingBy key xs → IsNonDecreasing (map key xs)
map_rises key [] rise i j d le lt = absurd (omega arith)
map_rises {X} key (x ∷ xs) rise i j d le lt =
    let ys : List X = x ∷ xs in
    let low : j < length ys = omega (arith, lt, length-map ys key) in
    omega (arith, get_or-map key ys i x d (omega arith), get_or-map key ys j x d low, rise i j x le low)

not_after : (entry other : Bucket) → IsBefore entry other → entry.node.0 ≤ other.node.0
not_after entry other before = elim before [ inl lt ↦ omega arith | inr same ↦ omega (arith, same.0) ]

-- entries in order rise by vertex
pub entries_rise : (list : List Bucket) → AllAdjacentBelow IsBefore list (length list) → IsNonDecreasingBy (λ entry. entry.node.0) list
entries_rise list in_order =
    IsNonDecreasingBy-from_all_adjacent (λ (entry : Bucket). entry.node.0) list
    (λ k d lt. not_after (get_or list k d) (get_or list (k + 1) d) (in_order k d lt))

pub nodes_rise : (list : List Bucket) → AllAdjacentBelow IsBefore list (length list) → IsNonDecreasing (nodes_of list)
nodes_rise list in_order = map_rises (λ (entry : Bucket). entry.node.0) list (entries_rise list in_order)

past_to : (h : Parts) (v w l : ℕ) → Contains (map (bypass_of To) h.up) (record { seconds = l; node = record { 0 = v }; over = record { 0 = w } }) ↔ HasArc h.up v w l
past_to h v w l = (
  λ has.
      let m = map_has (bypass_of To) h.up (record { seconds = l; node = record { 0 = v }; over = record { 0 = w } }) has in
      let is : ◌≡◌ {A = UpDown} m.0 (record { from = record { 0 = v }; to = record { 0 = w }; seconds = l; middle = m.0.middle }) =
      ap (λ (b : Bypass). record { from = b.node; to = b.over; seconds = b.seconds; middle = m.0.middle }) m.1.1 in
      (m.0.middle, subst (λ (arc : UpDown). Contains h.up arc) is m.1.0),
  λ arc. map_contains (bypass_of To) h.up (record { from = record { 0 = v }; to = record { 0 = w }; seconds = l; middle = arc.0 }) arc.1,
)

past_from : (h : Parts) (v w l : ℕ) → Contains (map (bypass_of From) h.down) (record { seconds = l; node = record { 0 = v }; over = record { 0 = w } }) ↔ HasArc h.down w v l
past_from h v w l = (
  λ has.
      let m = map_has (bypass_of From) h.down (record { seconds = l; node = record { 0 = v }; over = record { 0 = w } }) has in
      let is : ◌≡◌ {A = UpDown} m.0 (record { from = record { 0 = w }; to = record { 0 = v }; seconds = l; middle = m.0.middle }) =
      ap (λ (b : Bypass). record { from = b.over; to = b.node; seconds = b.seconds; middle = m.0.middle }) m.1.1 in
      (m.0.middle, subst (λ (arc : UpDown). Contains h.down arc) is m.1.0),
  λ arc. map_contains (bypass_of From) h.down (record { from = record { 0 = w }; to = record { 0 = v }; seconds = l; middle = arc.0 }) arc.1,
)

past : (side : Side) (h : Parts) (v w l : ℕ)
    → Contains (map (bypass_of side) (arcs_of side h)) (record { seconds = l; node = record { 0 = v }; over = record { 0 = w } }) ↔ leads_over side h v w l
past To h v w l = past_to h v w l
past From h v w l = past_from h v w l

-- the arcs past the vertices, in whatever order
pub past_sorted : (side : Side) (h : Parts) (arcs after : List Bypass) → arcs ≡ map (bypass_of side) (arcs_of side h) → IsPermutation arcs after → (v w l : ℕ)
    → Contains after (record { seconds = l; node = record { 0 = v }; over = record { 0 = w } }) ↔ leads_over side h v w l
past_sorted side h arcs after is moved v w l =
    let b : Bypass = record { seconds = l; node = record { 0 = v }; over = record { 0 = w } } in (
      λ has. (past side h v w l).0 (subst (λ (xs : List Bypass). Contains xs b) is (Contains-permutation after arcs b (IsPermutation-sym arcs after moved) has)),
      λ leads. Contains-permutation arcs after b moved (subst (λ (xs : List Bypass). Contains xs b) (sym is) ((past side h v w l).1 leads)),
    )
