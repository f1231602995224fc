-- What a queue stores, as an entry comes, is lowered or leaves.
use Rattle.std.proofs.Common.{◌≡◌, ◌≢◌, ℕ, ◌+◌, ◌<◌, ◌≤◌, true, false, List, [], ◌∷◌, ◌++◌, length, get_or, set, Option, Some, None, option_map, is_lt, sym, refl, ap, ap₂, ◌∙◌, subst, subst₂, arith, eqb, eqb-true, true≢false, ◌-◌, ◌/◌, length-set, get_or-set_same, get_or-set_other}
use Rattle.std.specs.declared.cmp.Ordering.{Ordering}
use Rattle.std.specs.declared.cmp.Ordering.TheVariants.{Less, Equal, Greater}
use Rattle.std.specs.Cmp.{IsTotalOrder}
use Rattle.std.specs.Ordering.{ordering_then, nat_cmp, is_gt}
use Rattle.std.proofs.lemmas.Bool.{eqb-false}
use Rattle.std.proofs.lemmas.List.{get_or_at, get_or_append_left, get_or_read, length_push, length-map}
use Rattle.std.proofs.lemmas.Option.{slice_get_past}
use Rattle.walk_queue.specs.declared.heap.Entry.{Entry}
use Rattle.walk_queue.specs.Keys.{key_at, IsLeast}
use Rattle.walk_queue.specs.Heap.{entry_cmp, IsHeap, IsHeapUpFrom, IsHeapDownFrom, IsLinked, key_in, keys_in, IsStored}
use Rattle.walk_queue.proofs.Order.{IsHeapUpFrom-pushed, IsHeapUpFrom-lowered, IsHeapDownFrom-replaced, Upto-along}
use Rattle.walk_queue.proofs.Arrival.{IsLinked-pushed, keys_in-pushed, IsLinked-written, keys_in-lowered}
use Rattle.walk_queue.proofs.Removal.{IsLinked-taken, keys_in-taken}
use Rattle.walk_queue.proofs.Room.{has_room}
use Rattle.walk_queue.proofs.Swap.{get_or_same}
use Rattle.walk_queue.proofs.KeysIn.{key_in-slot}
use Rattle.walk_queue.proofs.Least.{key_at-place, IsLeast-first}

-- what a read of a slot's number says
pub slot_at : (index : List ℕ) (p r : ℕ) → p < length index → r ≡ get_or index p r → get_or index p 0 ≡ r
slot_at index p r low is = sym (get_or_read index p r low is 0)

module _ {K : Type 0} where
  pub in_index : (xs : List (Entry K)) (index : List ℕ) (keys : List (Option K)) (p : ℕ) → keys_in xs index ≡ keys → p < length keys → p < length index
  in_index xs index keys p is low = let long = length-map index (key_in xs) in let same = ap length is in omega (arith, long, same)

  pub keys_in-along : (xs ys : List (Entry K)) (i j : List ℕ) → xs ≡ ys → i ≡ j → keys_in xs i ≡ keys_in ys j
  keys_in-along xs ys i j a b = ap₂ keys_in a b

  pub IsLinked-along : (xs ys : List (Entry K)) (i j : List ℕ) → xs ≡ ys → i ≡ j → IsLinked ys j → IsLinked xs i
  IsLinked-along xs ys i j a b h = subst₂ IsLinked (sym a) (sym b) h

  module _ {cmp : K → K → Ordering} where
    pub IsHeapUpFrom-along : (xs ys : List (Entry K)) (i j : ℕ) → xs ≡ ys → i ≡ j → IsHeapUpFrom cmp ys j → IsHeapUpFrom cmp xs i
    IsHeapUpFrom-along xs ys i j a b h = subst₂ (IsHeapUpFrom cmp) (sym a) (sym b) h

    pub IsHeapDownFrom-along : (xs ys : List (Entry K)) (i : ℕ) → xs ≡ ys → IsHeapDownFrom cmp ys i → IsHeapDownFrom cmp xs i
    IsHeapDownFrom-along xs ys i a h = subst (λ zs. IsHeapDownFrom cmp zs i) (sym a) h

    pub IsStored-along : (xs ys : List (Entry K)) (i j : List ℕ) (n m : ℕ) → xs ≡ ys → i ≡ j → n ≡ m → IsStored cmp ys j m → IsStored cmp xs i n
    IsStored-along xs ys i j n m a b e h = subst₂ (λ zs k. IsStored cmp zs k n) (sym a) (sym b) (subst (IsStored cmp ys j) (sym e) h)

lt_then : (r s : Ordering) → is_lt r ≡ true → is_gt (ordering_then r s) ≡ false
lt_then Less s h = refl
lt_then Equal s h = absurd (true≢false (sym h))
lt_then Greater s h = absurd (true≢false (sym h))

module _ {K : Type 0} {cmp : K → K → Ordering} (laws : IsTotalOrder cmp) (slots : List (Entry K)) (index : List ℕ) (room : ℕ) (was : IsStored cmp slots index room) where
  -- an entry whose place has no slot
  module _ (e : Entry K) (here : e.place < length index) (absent : get_or index e.place 0 ≡ 4294967295) where
    pub free : length slots < length index
    free = let inside = was.within in let few = was.few in has_room slots index e.place (omega arith) here absent was.linked

    below_absent : length slots < 4294967295
    below_absent = let few = was.few in let there = free in omega arith

    pub linked-pushed : IsLinked (slots ++ e ∷ []) (set index e.place (length slots))
    linked-pushed = IsLinked-pushed slots index e below_absent here absent was.linked

    pub keys-pushed : keys_in (slots ++ e ∷ []) (set index e.place (length slots)) ≡ set (keys_in slots index) e.place (Some e.key)
    keys-pushed = keys_in-pushed slots index e below_absent here absent was.linked

    pub order-pushed : IsHeapUpFrom cmp (slots ++ e ∷ []) (length slots)
    order-pushed = IsHeapUpFrom-pushed laws slots e was.heap

    pub key_at-absent : key_at (keys_in slots index) e.place ≡ None
    key_at-absent = key_at-place slots index e.place here ∙ ap (key_in slots) absent ∙ ap (option_map (λ x. x.key)) (slice_get_past slots 4294967295 (let b = below_absent in omega arith))

  -- an entry whose place has a slot
  module _ (e : Entry K) (at : ℕ) (here : e.place < length index) (is : get_or index e.place 0 ≡ at) (some : at ≢ 4294967295) where
    there : (get_or index e.place 0 < length slots) × ((get_or slots (get_or index e.place 0) e).place ≡ e.place)
    there = was.linked.back e.place e here (λ h. some (sym is ∙ h))

    pub slot_within : at < length slots
    slot_within = let inside = there in omega (arith, inside.0)

    few_slots : length slots ≤ 4294967295
    few_slots = let inside = was.within in let few = was.few in omega arith

    pub linked-lowered : IsLinked (set slots at e) index
    linked-lowered = IsLinked-written slots index at e slot_within here is some was.linked

    pub keys-lowered : keys_in (set slots at e) index ≡ set (keys_in slots index) e.place (Some e.key)
    keys-lowered = keys_in-lowered slots index at e few_slots slot_within here is some was.linked

    pub key_at-slot : (held : Entry K) → held ≡ get_or slots at held → key_at (keys_in slots index) e.place ≡ Some held.key
    key_at-slot held read = key_at-place slots index e.place here ∙ ap (key_in slots) is ∙ key_in-slot slots at held slot_within (sym read)

    pub order-lowered : (held : Entry K) → held ≡ get_or slots at held → is_lt (cmp e.key held.key) ≡ true → IsHeapUpFrom cmp (set slots at e) at
    order-lowered held read less =
        IsHeapUpFrom-lowered laws slots at e slot_within
        (λ d. Upto-along laws e _ e held refl (sym (get_or_read slots at held slot_within read d)) (lt_then (cmp e.key held.key) (nat_cmp e.place held.place) less))
        was.heap

  -- the entry in the first slot leaves, and the last of n takes its slot
  module _ (ys : List (Entry K)) (top : Entry K) (n m : ℕ) (n_is : n ≡ length slots) (m_is : m ≡ length ys) (len : m + 1 ≡ n) (value : top ≡ get_or slots 0 top)
      (by_index : ((d : Entry K) → 1 < n → get_or ys 0 d ≡ get_or slots (n - 1) d) × ((k : ℕ) (d : Entry K) → k ≢ 0 → k + 1 < n → get_or ys k d ≡ get_or slots k d)) where
    fewer : length slots ≡ length ys + 1
    fewer = omega arith

    is_top : (d : Entry K) → get_or slots 0 d ≡ top
    is_top d = sym (get_or_read slots 0 top (omega arith) value d)

    rest : (k : ℕ) (d : Entry K) → k ≢ 0 → k < length ys → get_or ys k d ≡ get_or slots k d
    rest k d off low = by_index.1 k d off (omega arith)

    few_before : length slots ≤ 4294967295
    few_before = let inside = was.within in let few = was.few in omega arith

    top_stood : (top.place < length index) × (get_or index top.place 0 ≡ 0)
    top_stood = subst (λ (x : Entry K). (x.place < length index) × (get_or index x.place 0 ≡ 0)) (is_top top) (was.linked.stands 0 top (omega arith))

    pub top_least : IsLeast cmp (keys_in slots index) top.place top.key
    top_least = IsLeast-first laws slots index top few_before (omega arith) is_top was.linked was.heap

    pub order-taken : IsHeapDownFrom cmp ys 0
    order-taken = IsHeapDownFrom-replaced laws slots ys (omega arith) (λ k d pos low. rest k d (omega arith) low) was.heap

    -- no other entry is left
    module _ (none : length ys ≡ 0) where
      absent : get_or (set index top.place 4294967295) top.place 0 ≡ 4294967295
      absent = get_or-set_same index top.place 4294967295 0 top_stood.0

      last_is_top : (d : Entry K) → get_or slots (length ys) d ≡ top
      last_is_top d = get_or_same slots (length ys) 0 d none ∙ is_top d

      others : (p : ℕ) → p ≢ top.place → p ≢ top.place → get_or (set index top.place 4294967295) p 0 ≡ get_or index p 0
      others p off _ = get_or-set_other index top.place p 4294967295 0 off

      pub linked-last : IsLinked ys (set index top.place 4294967295)
      linked-last =
          IsLinked-taken slots ys index (set index top.place 4294967295) 0 top top fewer (omega arith) is_top last_is_top (λ d low. absurd (omega arith)) (λ k d low off. absurd (omega arith))
          (length-set index top.place 4294967295) absent (λ off. absurd (off refl)) others was.linked

      pub keys-last : keys_in ys (set index top.place 4294967295) ≡ set (keys_in slots index) top.place None
      keys-last =
          keys_in-taken slots ys index (set index top.place 4294967295) 0 top top fewer (omega arith) is_top last_is_top (λ d low. absurd (omega arith)) (λ k d low off. absurd (omega arith))
          (length-set index top.place 4294967295) absent (λ off. absurd (off refl)) others was.linked few_before

      pub heap-last : IsHeap cmp ys
      heap-last k d pos low = absurd (omega arith)

    -- another entry has moved into the first slot
    module _ (moved : Entry K) (more : 0 < length ys) (read : moved ≡ get_or ys 0 moved) where
      last_is_moved : (d : Entry K) → get_or slots (length ys) d ≡ moved
      last_is_moved d = get_or_same slots (length ys) (n - 1) d (omega arith) ∙ sym (by_index.0 d (omega arith)) ∙ sym (get_or_read ys 0 moved more read d)

      moved_stood : (moved.place < length index) × (get_or index moved.place 0 ≡ length ys)
      moved_stood = subst (λ (x : Entry K). (x.place < length index) × (get_or index x.place 0 ≡ length ys)) (last_is_moved moved) (was.linked.stands (length ys) moved (omega arith))

      apart : moved.place ≢ top.place
      apart h = let one : get_or index moved.place 0 ≡ get_or index top.place 0 = ap (λ p. get_or index p 0) h in omega (arith, one, moved_stood.1, top_stood.1)

      long : length (set (set index top.place 4294967295) moved.place 0) ≡ length index
      long = length-set (set index top.place 4294967295) moved.place 0 ∙ length-set index top.place 4294967295

      now_top : get_or (set (set index top.place 4294967295) moved.place 0) top.place 0 ≡ 4294967295
      now_top = get_or-set_other (set index top.place 4294967295) moved.place top.place 0 0 (λ h. apart (sym h)) ∙ get_or-set_same index top.place 4294967295 0 top_stood.0

      now_moved : moved.place ≢ top.place → get_or (set (set index top.place 4294967295) moved.place 0) moved.place 0 ≡ 0
      now_moved _ = get_or-set_same (set index top.place 4294967295) moved.place 0 0 (let same = length-set index top.place 4294967295 in omega (arith, same, moved_stood.0))

      others_stay : (p : ℕ) → p ≢ top.place → p ≢ moved.place → get_or (set (set index top.place 4294967295) moved.place 0) p 0 ≡ get_or index p 0
      others_stay p off_top off_moved = get_or-set_other (set index top.place 4294967295) moved.place p 0 0 off_moved ∙ get_or-set_other index top.place p 4294967295 0 off_top

      pub linked-moved : IsLinked ys (set (set index top.place 4294967295) moved.place 0)
      linked-moved =
          IsLinked-taken slots ys index (set (set index top.place 4294967295) moved.place 0) 0 top moved fewer (omega arith) is_top last_is_moved (λ d low. sym (get_or_read ys 0 moved more read d))
          (λ k d low off. rest k d off low) long now_top now_moved others_stay was.linked

      pub keys-moved : keys_in ys (set (set index top.place 4294967295) moved.place 0) ≡ set (keys_in slots index) top.place None
      keys-moved =
          keys_in-taken slots ys index (set (set index top.place 4294967295) moved.place 0) 0 top moved fewer (omega arith) is_top last_is_moved (λ d low. sym (get_or_read ys 0 moved more read d))
          (λ k d low off. rest k d off low) long now_top now_moved others_stay was.linked few_before

-- the last entry leaves
module _ {K : Type 0} (xs ys : List (Entry K)) (index : List ℕ) (e : Entry K) (is : xs ≡ ys ++ e ∷ []) where
  last_is : (d : Entry K) → get_or xs (length ys) d ≡ e
  last_is d = ap (λ zs. get_or zs (length ys) d) is ∙ get_or_at ys e [] d (length ys) refl

  one_more : length xs ≡ length ys + 1
  one_more = ap length is ∙ length_push ys e

  before : (k : ℕ) (d : Entry K) → k < length ys → get_or ys k d ≡ get_or xs k d
  before k d low = sym (ap (λ zs. get_or zs k d) is ∙ get_or_append_left ys (e ∷ []) d k low)

  pub IsStored-popped : {cmp : K → K → Ordering} (room room' : ℕ) → room' ≡ room → IsStored cmp xs index room → IsStored cmp ys (set index e.place 4294967295) room'
  IsStored-popped {cmp} room room' same was =
      let more = one_more in
      let stood : (e.place < length index) × (get_or index e.place 0 ≡ length ys) = subst (λ (x : Entry K). (x.place < length index) × (get_or index x.place 0 ≡ length ys)) (last_is e) (was.linked.stands (length ys) e (omega arith)) in
      let long = length-set index e.place 4294967295 in
      record {
        linked =
            IsLinked-taken xs ys index (set index e.place 4294967295) (length ys) e e more (omega arith) last_is last_is (λ d low. absurd (omega arith)) (λ k d low off. before k d low) long
            (get_or-set_same index e.place 4294967295 0 stood.0) (λ off. absurd (off refl)) (λ p off _. get_or-set_other index e.place p 4294967295 0 off) was.linked;
        heap = λ k d pos low. ap₂ (λ a b. is_gt (entry_cmp cmp a b)) (before ((k - 1) / 4) d (omega arith)) (before k d low) ∙ was.heap k d pos (omega arith);
        within = omega (arith, was.within, long);
        has_room = omega (arith, was.has_room, long);
        few = omega (arith, was.few, long);
      }

  pub place-popped : {cmp : K → K → Ordering} (room : ℕ) → IsStored cmp xs index room → e.place < length index
  place-popped room was =
      let more = one_more in
      subst (λ (x : Entry K). x.place < length index) (last_is e) (was.linked.stands (length ys) e (omega arith)).0

pub some_left : (m n : ℕ) → m ≡ n → eqb m 0 ≡ false → 0 < n
some_left m n is test = let apart : m ≢ 0 = eqb-false m 0 test in omega arith

pub none_left : (m n : ℕ) → m ≡ n → eqb m 0 ≡ true → n ≡ 0
none_left m n is test = sym is ∙ eqb-true m 0 test
