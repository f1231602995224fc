-- The starts, one after another.
use Rattle.std.proofs.Common.{◌≡◌, ℕ, ◌+◌, ◌<◌, ◌⊎◌, List, Some, length, slice_get, slice_index_or, sym, ap, ◌∙◌, subst, inl, inr, arith}
use Rattle.std.specs.Prelude.{◌↔◌, All}
use Rattle.std.specs.List.{AllAdjacentBelow}
use Rattle.std.proofs.lemmas.Bool.{cases_eq}
use Rattle.std.proofs.lemmas.Option.{slice_get_within, get_or_from_slice_get}
use Rattle.std.proofs.lemmas.List.Elements.{Contains-get_or}
use Rattle.move_model.specs.declared.network.Network.{Network}
use Rattle.move_model.specs.declared.network.StopNo.{StopNo}
use Rattle.move_model.specs.Network.{node_of}
use Rattle.stop_rows.specs.Rows.{Rows, ArePlaces}
use Rattle.start_seconds.specs.declared.start.Start.{Start}
use Rattle.start_seconds.specs.Starts.{AreStarts, IsLater}
use Rattle.witness_prune.specs.Search.{IsNeededFrom}
use Rattle.shortcut_build.specs.Collected.{GoesOn, IsAfter, IsReady, HasNeeded}

-- what is read past the end
abbrev pub no_start : Start
no_start = record { place = 0; second = 0 }

-- an item that stands at a place is the one that is read there
item_at : {X : Type 0} (xs : List X) (k : ℕ) (x d : X) → slice_get xs k ≡ Some x → slice_index_or xs k d ≡ x
item_at xs k x d is = get_or_from_slice_get xs k x d is

-- the search has just begun at the place of the start
pub ready_begun : (starts : List Start) (k : ℕ) (at : Start) (place bound : ℕ) → slice_get starts k ≡ Some at → place ≡ at.place → at.second < bound
    → IsReady place bound starts k
ready_begun starts k at place bound is_at there below start is =
    let same : Some at ≡ Some start = sym is_at ∙ is in
    let one : at ≡ start = cc in
    (there ∙ ap (λ (s : Start). s.place) one, subst (λ (s : Start). s.second < bound) one below)

-- the search goes on at the same place
pub ready_on : (starts : List Start) (k place bound : ℕ) → k < length starts → AllAdjacentBelow IsLater starts (length starts) → GoesOn starts k
    → IsAfter place bound starts k → IsReady place bound starts k
ready_on starts k place bound low later on after start is =
    let d = no_start in
    let was = after on.i on.before on.next on.is_before in
    let same : Some on.start ≡ Some start = sym on.is_start ∙ is in
    let one : on.start ≡ start = cc in
    let here : slice_index_or starts on.i no_start ≡ on.before = item_at starts on.i on.before d on.is_before in
    let next : slice_index_or starts (on.i + 1) no_start ≡ start = ap (λ (j : ℕ). slice_index_or starts j no_start) on.next ∙ item_at starts k start d is in
    let falls : IsLater on.before start =
    subst (λ (s : Start). IsLater s start) here (subst (λ (s : Start). IsLater (slice_index_or starts on.i no_start) s) next (later on.i d (omega (arith, low, on.next)))) in
    let place_is : on.before.place ≡ start.place = on.one_place ∙ ap (λ (s : Start). s.place) one in (
      was.0 ∙ place_is,
      elim falls [
        | inl lower ↦ absurd (omega (arith, lower, place_is))
        | inr later ↦ omega (arith, later.1, was.1)
      ],
    )

-- the search has made a step
pub after_step : (starts : List Start) (k : ℕ) (start : Start) (place bound : ℕ) → slice_get starts k ≡ Some start → place ≡ start.place → bound ≡ start.second
    → IsAfter place bound starts (k + 1)
after_step starts k start place bound is at below i other next is_other =
    let e : i ≡ k = omega (arith, next) in
    let same : Some start ≡ Some other = sym is ∙ ap (λ (j : ℕ). slice_get starts j) (sym e) ∙ is_other in
    let one : start ≡ other = cc in
    (at ∙ ap (λ (s : Start). s.place) one, below ∙ ap (λ (s : Start). s.second) one)

-- what is needed is told of the same network, rows and place
pub needed_same : (n n' : Network) (rows rows' : Rows) (p p' z : ℕ) (x y : StopNo) (new mid : Type 0) → n ≡ n' → rows ≡ rows' → p ≡ p'
    → new ↔ (mid ⊎ IsNeededFrom n rows p z x y) → new ↔ (mid ⊎ IsNeededFrom n' rows' p' z x y)
needed_same n n' rows rows' p p' z x y new mid e f g then =
    subst (λ (q : ℕ). new ↔ (mid ⊎ IsNeededFrom n' rows' q z x y)) g
    (subst (λ (r : Rows). new ↔ (mid ⊎ IsNeededFrom n' r p z x y)) f (subst (λ (m : Network). new ↔ (mid ⊎ IsNeededFrom m rows p z x y)) e then))

-- what is needed from one start more
pub needed_more : (n : Network) (rows : Rows) (starts : List Start) (k : ℕ) (start : Start) (x y : StopNo) (old mid new : Type 0) → slice_get starts k ≡ Some start
    → mid ↔ (old ⊎ HasNeeded n rows starts k x y) → new ↔ (mid ⊎ IsNeededFrom n rows start.place start.second x y)
    → new ↔ (old ⊎ HasNeeded n rows starts (k + 1) x y)
needed_more n rows starts k start x y old mid new is was then = (
  λ h. elim (then.0 h) [
    | inl m ↦ elim (was.0 m) [
      | inl o ↦ inl o
      | inr has ↦ inr (record { i = has.i; start = has.start; is_start = has.is_start; before = omega (arith, has.before); needed = has.needed })
    ]
    | inr from ↦ inr (record { i = k; start = start; is_start = is; before = omega arith; needed = from })
  ],
  λ h. elim h [
    | inl o ↦ then.1 (inl (was.1 (inl o)))
    | inr has ↦ elim (cases_eq has.i k) [
      | inl e ↦
          let same : Some has.start ≡ Some start = sym has.is_start ∙ ap (λ (i : ℕ). slice_get starts i) e ∙ is in
          let one : has.start ≡ start = cc in
          then.1 (inr (subst (λ (s : Start). IsNeededFrom n rows s.place s.second x y) one has.needed))
      | inr ne ↦
          then.1 (inl (was.1 (inr (record { i = has.i; start = has.start; is_start = has.is_start; before = omega (arith, has.before, ne); needed = has.needed }))))
    ]
  ],
)

-- each start stands at one of the places
pub starts_within : (n : Network) (rows : Rows) (starts : List Start) → ArePlaces n rows → AreStarts n rows starts → All (λ start. start.place < length rows.nodes) starts
starts_within n rows starts places are k d low =
    let s = slice_index_or starts k d in
    let has = (are.exact (slice_index_or starts k d)).0 (Contains-get_or starts k d low) in
    subst (λ (p : ℕ). p < length rows.nodes) has.stands (slice_get_within rows.nodes _ (node_of n has.stop) (places.stands has.stop has.exists))
