-- The cells above a point.
use Rattle.std.proofs.Common.{◌≡◌, ◌∙◌, ◌+◌, ◌/◌, ◌-◌, ◌<◌, ◌⊎◌, ℕ, zero, suc, List, [], ◌∷◌, ◌++◌, length, get_or, refl, inl, inr, arith, add-one}
use Rattle.std.proofs.lemmas.Bool.{cases_lt}
use Rattle.std.proofs.lemmas.Int.{ints}
use Rattle.std.proofs.lemmas.List.{get_or_append_left, get_or_push, get_or_default}
use Rattle.stop_match.specs.declared.cell.Cell.{Cell}
use Rattle.stop_match.specs.declared.target.Key.{Key}
use Rattle.stop_match.specs.declared.target.Target.{Target}
use Rattle.stop_match.specs.Cell.{Within, no_cell, cell_at, cells, cell, AreParents, AreLevels, key_of, IsBefore, IsNoLater}
use Rattle.stop_match.proofs.KeyLemmas.{key-le, IsNoLater-refl, IsNoLater-trans, IsNoLater-not, IsNoLater-parts}

pub Within-refl : (c : Cell) → Within c c
Within-refl c = record { lat_low = omega (arith, ints); lat_high = omega (arith, ints); lon_low = omega (arith, ints); lon_high = omega (arith, ints); least = omega arith }

pub Within-trans : (a b c : Cell) → Within a b → Within b c → Within a c
Within-trans a b c p q =
    record {
      lat_low = omega (arith, ints, p.lat_low, q.lat_low);
      lat_high = omega (arith, ints, p.lat_high, q.lat_high);
      lon_low = omega (arith, ints, p.lon_low, q.lon_low);
      lon_high = omega (arith, ints, p.lon_high, q.lon_high);
      least = omega (arith, p.least, q.least);
    }

-- one more cell of the next coarser grid
pub within_push : (fine coarse : List Cell) (x : Cell) (i : ℕ) → length coarse ≡ i
    → ((c : ℕ) (d e : Cell) → c < length fine → c / 8 < i → Within (get_or fine c d) (get_or coarse (c / 8) e))
    → ((c : ℕ) (d : Cell) → c < length fine → c / 8 ≡ i → Within (get_or fine c d) x)
    → (c : ℕ) (d e : Cell) → c < length fine → c / 8 < i + 1 → Within (get_or fine c d) (get_or (coarse ++ x ∷ []) (c / 8) e)
within_push fine coarse x i each before here c d e lt less =
    elim (cases_lt (c / 8) i) [
      | inl earlier ↦
          let within : c / 8 < length coarse = omega arith in
          rw (get_or_append_left coarse (x ∷ []) e (c / 8) within) (before c d e lt earlier)
      | inr last ↦
          let at : c / 8 ≡ i = omega arith in
          let end : length coarse ≡ c / 8 = omega arith in
          rw (get_or_push coarse x e (c / 8) end) (here c d lt at)
    ]

-- a whole coarser grid
pub are-parents : (fine coarse : List Cell) (i : ℕ) → 0 < length fine → length coarse ≡ i → i ≡ (length fine - 1) / 8 + 1
    → ((c : ℕ) (d e : Cell) → c < length fine → c / 8 < i → Within (get_or fine c d) (get_or coarse (c / 8) e))
    → AreParents fine coarse
are-parents fine coarse i some each all before =
    record {
      within = λ c d e lt. before c d e lt (omega arith);
      many = λ c lt. omega arith;
      some = λ c lt. omega arith;
    }

-- each grid has a cell above each point
pub cell_at-lt : (levels : List (List Cell)) (p : ℕ) → AreLevels levels → p < length (cells levels 0) → (d : ℕ) → d < length levels
    → cell_at d p < length (cells levels d)
cell_at-lt levels p h lt zero deep = lt
cell_at-lt levels p h lt (suc d) deep =
    rw add-one at ((h.parents d (omega arith)).many (cell_at d p) (cell_at-lt levels p h lt d (omega arith)))

pub cell_at-pred : (d p : ℕ) → 0 < d → cell_at d p ≡ cell_at (d - 1) p / 8
cell_at-pred zero p some = absurd (omega arith)
cell_at-pred (suc d) p some = let e : suc d - 1 ≡ d = omega arith in rw e refl

-- what indexing gave
pub cells-read : (levels : List (List Cell)) (d : ℕ) (x : List Cell) → d < length levels → x ≡ get_or levels d x → x ≡ cells levels d
cells-read levels d x lt e = e ∙ get_or_default levels d x [] lt

-- and that cell holds the point
pub within-at : (levels : List (List Cell)) (p : ℕ) → AreLevels levels → p < length (cells levels 0) → (d : ℕ) → d < length levels
    → Within (cell levels 0 p) (cell levels d (cell_at d p))
within-at levels p h lt zero deep = Within-refl (cell levels 0 p)
within-at levels p h lt (suc d) deep =
    let here = cell_at-lt levels p h lt d (omega arith) in
    let up = (h.parents d (omega arith)).within (cell_at d p) no_cell no_cell here in
    let above : Within (cell levels d (cell_at d p)) (cell levels (suc d) (cell_at d p / 8)) = rw add-one at up in
    Within-trans (cell levels 0 p) (cell levels d (cell_at d p)) (cell levels (suc d) (cell_at d p / 8)) (within-at levels p h lt d (omega arith)) above

-- a cell that holds no better point is passed over
pub passed : (levels : List (List Cell)) (t : Target) (best : Key) (d j p : ℕ) → AreLevels levels → d < length levels → p < length (cells levels 0)
    → cell_at d p ≡ j → (IsBefore (key_of t (cell levels d j)) best → ⊥) → IsNoLater best (key_of t (cell levels 0 p))
passed levels t best d j p h deep lt e refuses =
    let within : Within (cell levels 0 p) (cell levels d j) = rw e at (within-at levels p h lt d deep) in
    let less = key-le t (cell levels 0 p) (cell levels d j) (h.points p no_cell lt) within in
    IsNoLater-trans best (key_of t (cell levels d j)) (key_of t (cell levels 0 p))
    (IsNoLater-not (key_of t (cell levels d j)) best refuses)
    (IsNoLater-parts (key_of t (cell levels d j)) (key_of t (cell levels 0 p)) less.0 less.1)

-- one child on: the next key is the least of the last one and those of the points below the child
pub record IsStep (levels : List (List Cell)) (t : Target) (d child : ℕ) (least next : Key) : Type 0 where
  pub keeps : IsNoLater next least
  pub done : (p : ℕ) → p < length (cells levels 0) → cell_at d p ≡ child → IsNoLater next (key_of t (cell levels 0 p))
  pub real : (next ≡ least) ⊎ ((p : ℕ) × (p < length (cells levels 0)) × (next ≡ key_of t (cell levels 0 p)))

-- a child that is passed over leaves the key
pub step-passed : (levels : List (List Cell)) (t : Target) (least : Key) (d child : ℕ) → AreLevels levels → d < length levels
    → (IsBefore (key_of t (cell levels d child)) least → ⊥) → IsStep levels t d child least least
step-passed levels t least d child h deep refuses =
    record { keeps = IsNoLater-refl least; done = λ p lt at. passed levels t least d child p h deep lt at refuses; real = inl refl }

pub step-done : (levels : List (List Cell)) (t : Target) (d child : ℕ) (least next : Key) (p : ℕ) → IsStep levels t d child least next
    → p < length (cells levels 0) → cell_at d p < child + 1 → (cell_at d p < child → IsNoLater least (key_of t (cell levels 0 p)))
    → IsNoLater next (key_of t (cell levels 0 p))
step-done levels t d child least next p step lt less earlier =
    elim (cases_lt (cell_at d p) child) [
      | inl before ↦ IsNoLater-trans next least (key_of t (cell levels 0 p)) step.keeps (earlier before)
      | inr here ↦ step.done p lt (omega arith)
    ]

step-real-of : (levels : List (List Cell)) (t : Target) (best least next : Key)
    → ((next ≡ least) ⊎ ((p : ℕ) × (p < length (cells levels 0)) × (next ≡ key_of t (cell levels 0 p))))
    → ((least ≡ best) ⊎ ((p : ℕ) × (p < length (cells levels 0)) × (least ≡ key_of t (cell levels 0 p))))
    → (next ≡ best) ⊎ ((p : ℕ) × (p < length (cells levels 0)) × (next ≡ key_of t (cell levels 0 p)))
step-real-of levels t best least next (inr found) before = inr found
step-real-of levels t best least next (inl e) (inl f) = inl (e ∙ f)
step-real-of levels t best least next (inl e) (inr g) = inr (g.0, g.1, e ∙ g.2)

pub step-real : (levels : List (List Cell)) (t : Target) (d child : ℕ) (best least next : Key) → IsStep levels t d child least next
    → ((least ≡ best) ⊎ ((p : ℕ) × (p < length (cells levels 0)) × (least ≡ key_of t (cell levels 0 p))))
    → (next ≡ best) ⊎ ((p : ℕ) × (p < length (cells levels 0)) × (next ≡ key_of t (cell levels 0 p)))
step-real levels t d child best least next step before = step-real-of levels t best least next step.real before
