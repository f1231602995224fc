-- Labels in slots.
use Rattle.std.proofs.Common.{◌≡◌, ◌≢◌, ◌==◌, ℕ, zero, suc, ◌+◌, ◌-◌, ◌<◌, ◌≤◌, ◌⊎◌, Bool, cond, List, [], ◌∷◌, ◌++◌, Option, Some, None, length, map, replicate, slice_index, slice_index_or, slice_set, refl, sym, ap, ◌∙◌, subst, inl, inr, arith, add-one, count_by}
use Rattle.std.proofs.lemmas.Bool.{cases_eq, cases_lt}
use Rattle.std.proofs.lemmas.Bool.Decides.{nat_tests}
use Rattle.std.proofs.lemmas.Option.{slice_get-get_or, slice_get_past}
use Rattle.std.proofs.lemmas.List.{get_or_past, get_or-map, get_or-set_same, get_or-set_other, get_or-replicate, get_or_append_left, get_or_push, length-map, length-set, length-replicate, length_push, same_lists}
use Rattle.std.proofs.lemmas.List.Sums.{sum_by-set}
use Rattle.core_search.specs.declared.label.Label.{Label}
use Rattle.core_search.specs.declared.labels.Slot.{Slot}
use Rattle.core_search.specs.Label.{label_at}
use Rattle.core_search.specs.Waiting.{HasNone, IsPut, IsAdmitted}
use Rattle.core_search.specs.Stored.{no_slot, label_of, label_in, labels_in, IsStored}
use Rattle.core_search.proofs.WaitLemmas.{label_shift}

pub no_label : Slot
no_label = record { label = None; node = record { 0 = 0 } }

label_in_slot : (slots : List Slot) (k : ℕ) (d : Slot) → k < length slots → label_in slots k ≡ (slice_index_or slots k d).label
label_in_slot slots k d low = ap label_of (slice_get-get_or slots k d low)

label_in_past : (slots : List Slot) (k : ℕ) → length slots ≤ k → label_in slots k ≡ None
label_in_past slots k past = ap label_of (slice_get_past slots k past)

pub label_there : (slots : List Slot) (index : List ℕ) (p : ℕ) → p < length index → label_at (labels_in slots index) (p + 1) ≡ label_in slots (slice_index index p)
label_there slots index p low = label_shift (map (label_in slots) index) p ∙ get_or-map (label_in slots) index p 0 None low

pub many_labels : (slots : List Slot) (index : List ℕ) → length (labels_in slots index) ≡ length index + 1
many_labels slots index = omega (arith, length-map index (label_in slots))

-- two lists of labels that have the same label at each vertex
pub same_labels : (xs ys : List (Option Label)) → length xs ≡ length ys → ((v : ℕ) → v < length xs → label_at xs v ≡ label_at ys v) → xs ≡ ys
same_labels xs ys long each = same_lists xs ys long (λ k d low. at_default xs k d low ∙ each k low ∙ sym (at_default ys k d (subst (λ (n : ℕ). k < n) long low)))
  where
    at_default : (zs : List (Option Label)) (k : ℕ) (d : Option Label) → k < length zs → slice_index_or zs k d ≡ label_at zs k
    at_default [] k d low = absurd (omega arith)
    at_default (z ∷ zs) zero d low = refl
    at_default (z ∷ zs) (suc k) d low = at_default zs k d (omega arith)

-- the labels in two ways to store them, where one place may differ
module _ (slots slots' : List Slot) (index index' : List ℕ) (p : ℕ) (x : Option Label) (long : length index' ≡ length index) (low : p < length index)
    (here : label_in slots' (slice_index index' p) ≡ x)
    (others : (q : ℕ) → q < length index → q ≢ p → label_in slots' (slice_index index' q) ≡ label_in slots (slice_index index q)) where
  at_each : (v : ℕ) → v < length index + 1 → label_at (labels_in slots' index') v ≡ label_at (slice_set (labels_in slots index) (suc p) x) v
  at_each zero lt = refl
  at_each (suc q) lt =
      let inside : q < length index = omega arith in
      let there : label_at (labels_in slots' index') (suc q) ≡ label_in slots' (slice_index index' q) =
      ap (label_at (labels_in slots' index')) (sym (add-one q)) ∙ label_there slots' index' q (omega arith) in
      let width : suc p < length (labels_in slots index) = omega (arith, many_labels slots index) in
      elim (cases_eq q p) [
        | inl e ↦
            there ∙ ap (λ (n : ℕ). label_in slots' (slice_index index' n)) e ∙ here
            ∙ sym (ap (λ (n : ℕ). label_at (slice_set (labels_in slots index) (suc p) x) (suc n)) e ∙ get_or-set_same (labels_in slots index) (suc p) x None width)
        | inr ne ↦
            let apart : suc q ≢ suc p = λ e. ne (omega arith) in
            there ∙ others q inside ne
            ∙ sym (get_or-set_other (labels_in slots index) (suc p) (suc q) x None apart ∙ ap (label_at (labels_in slots index)) (sym (add-one q)) ∙ label_there slots index q inside)
      ]

  set_labels : labels_in slots' index' ≡ slice_set (labels_in slots index) (p + 1) x
  set_labels =
      rw add-one (same_labels (labels_in slots' index') (slice_set (labels_in slots index) (suc p) x)
      (omega (arith, many_labels slots' index', many_labels slots index, length-set (labels_in slots index) (suc p) x))
      (λ v lt. at_each v (omega (arith, lt, many_labels slots' index'))))

absent : ℕ → Bool
absent at = at == no_slot

-- a slot is put behind the others
module _ (slots : List Slot) (index : List ℕ) (room : ℕ) (was : IsStored slots index room) (s : Slot) (from : 1 ≤ s.node.0) (low : s.node.0 - 1 < length index) (none : slice_index index (s.node.0 - 1) ≡ no_slot) where
  more : List Slot
  more = slots ++ s ∷ []

  long : length (slots ++ s ∷ []) ≡ length slots + 1
  long = length_push slots s

  counted : (at : ℕ) → at ≢ no_slot
      → count_by (λ (n : ℕ). n == no_slot) (slice_set index (s.node.0 - 1) at) + 1 ≡ count_by (λ (n : ℕ). n == no_slot) index
  counted at ne =
      let one : ◌≡◌ {A = ℕ} (cond (slice_index index (s.node.0 - 1) == no_slot) 1 0) 1 = ap (λ (n : ℕ). cond (n == no_slot) 1 0) none in
      let zero_now : ◌≡◌ {A = ℕ} (cond (at == no_slot) 1 0) 0 = grind (arith, nat_tests) in
      omega (arith, sum_by-set (λ (n : ℕ). cond (n == no_slot) 1 0) index (s.node.0 - 1) at 0 low, one, zero_now)

  pub few_slots : length slots < length index
  few_slots = omega (arith, was.many, counted 0 (omega arith))

  pub stored_pushed : (room' : ℕ) → length index ≤ room' → IsStored (slots ++ s ∷ []) (slice_set index (s.node.0 - 1) (length slots)) room'
  stored_pushed room' enough =
      let p = s.node.0 - 1 in
      let wide : length (slice_set index (s.node.0 - 1) (length slots)) ≡ length index = length-set index (s.node.0 - 1) (length slots) in
      record {
        stands = λ k d lt. elim (cases_lt k (length slots)) [
          | inl inside ↦
              let same : slice_index_or (slots ++ s ∷ []) k d ≡ slice_index_or slots k d = get_or_append_left slots (s ∷ []) d k inside in
              let old = was.stands k d inside in
              let apart : (slice_index_or slots k d).node.0 - 1 ≢ s.node.0 - 1 = λ e.
              let at : slice_index index ((slice_index_or slots k d).node.0 - 1) ≡ no_slot = ap (slice_index index) e ∙ none in
              omega (arith, at, old.2, inside, few_slots, was.few) in
              rw same (
                old.0,
                omega (arith, old.1, wide),
                get_or-set_other index (s.node.0 - 1) ((slice_index_or slots k d).node.0 - 1) (length slots) 0 apart ∙ old.2,
              )
          | inr last ↦
              let is : k ≡ length slots = omega (arith, lt, long, last) in
              let same : slice_index_or (slots ++ s ∷ []) k d ≡ s = get_or_push slots s d k (sym is) in
              rw same (from, omega (arith, wide, low, from), get_or-set_same index (s.node.0 - 1) (length slots) 0 low ∙ sym is)
        ];
        back = λ q d lt there. elim (cases_eq q (s.node.0 - 1)) [
          | inl e ↦
              let at : slice_index (slice_set index (s.node.0 - 1) (length slots)) q ≡ length slots =
              ap (slice_index (slice_set index (s.node.0 - 1) (length slots))) e ∙ get_or-set_same index (s.node.0 - 1) (length slots) 0 low in
              let same : slice_index_or (slots ++ s ∷ []) (slice_index (slice_set index (s.node.0 - 1) (length slots)) q) d ≡ s = get_or_push slots s d _ (sym at) in
              (omega (arith, at, long), ap (λ (x : Slot). x.node.0) same ∙ omega (arith, e, from))
          | inr ne ↦
              let at : slice_index (slice_set index (s.node.0 - 1) (length slots)) q ≡ slice_index index q = get_or-set_other index (s.node.0 - 1) q (length slots) 0 ne in
              let old = was.back q d (omega (arith, lt, wide)) (λ e. there (at ∙ e)) in
              rw at (omega (arith, old.0, long), ap (λ (x : Slot). x.node.0) (get_or_append_left slots (s ∷ []) d (slice_index index q) old.0) ∙ old.1)
        ];
        many = omega (arith, wide, long, was.many, counted (length slots) (omega (arith, few_slots, was.few)));
        enough = omega (arith, wide, enough);
        few = omega (arith, wide, was.few);
      }

  pub labels_pushed : labels_in (slots ++ s ∷ []) (slice_set index (s.node.0 - 1) (length slots)) ≡ slice_set (labels_in slots index) s.node.0 s.label
  labels_pushed =
      let back : s.node.0 - 1 + 1 ≡ s.node.0 = omega (arith, from) in
      subst (λ (n : ℕ). labels_in (slots ++ s ∷ []) (slice_set index (s.node.0 - 1) (length slots)) ≡ slice_set (labels_in slots index) n s.label) back
      (set_labels slots (slots ++ s ∷ []) index (slice_set index (s.node.0 - 1) (length slots)) (s.node.0 - 1) s.label (length-set index (s.node.0 - 1) (length slots)) low
      (ap (label_in (slots ++ s ∷ [])) (get_or-set_same index (s.node.0 - 1) (length slots) 0 low)
      ∙ label_in_slot (slots ++ s ∷ []) (length slots) s (omega (arith, long)) ∙ ap (λ (x : Slot). x.label) (get_or_push slots s s (length slots) refl))
      (λ q inside ne. ap (label_in (slots ++ s ∷ [])) (get_or-set_other index (s.node.0 - 1) q (length slots) 0 ne) ∙ same_label q inside))
    where
      same_label : (q : ℕ) → q < length index → label_in (slots ++ s ∷ []) (slice_index index q) ≡ label_in slots (slice_index index q)
      same_label q inside = elim (cases_eq (slice_index index q) no_slot) [
        | inl e ↦
            label_in_past (slots ++ s ∷ []) (slice_index index q) (omega (arith, e, long, few_slots, was.few))
            ∙ sym (label_in_past slots (slice_index index q) (omega (arith, e, few_slots, was.few)))
        | inr ne ↦
            let old = was.back q s inside ne in
            label_in_slot (slots ++ s ∷ []) (slice_index index q) s (omega (arith, old.0, long))
            ∙ ap (λ (x : Slot). x.label) (get_or_append_left slots (s ∷ []) s (slice_index index q) old.0)
            ∙ sym (label_in_slot slots (slice_index index q) s old.0)
      ]

-- a slot is replaced by one of the same vertex
module _ (slots : List Slot) (index : List ℕ) (room : ℕ) (was : IsStored slots index room) (s : Slot) (from : 1 ≤ s.node.0) (low : s.node.0 - 1 < length index) (some : slice_index index (s.node.0 - 1) ≢ no_slot) where
  pub slot_low : slice_index index (s.node.0 - 1) < length slots
  slot_low = (was.back (s.node.0 - 1) s low some).0

  node_at : (d : Slot) → (slice_index_or slots (slice_index index (s.node.0 - 1)) d).node.0 ≡ s.node.0
  node_at d = (was.back (s.node.0 - 1) d low some).1 ∙ omega (arith, from)

  node_set : (k : ℕ) (d : Slot) → (slice_index_or (slice_set slots (slice_index index (s.node.0 - 1)) s) k d).node.0 ≡ (slice_index_or slots k d).node.0
  node_set k d = elim (cases_eq k (slice_index index (s.node.0 - 1))) [
    | inl e ↦
        ap (λ (n : ℕ). (slice_index_or (slice_set slots (slice_index index (s.node.0 - 1)) s) n d).node.0) e
        ∙ ap (λ (x : Slot). x.node.0) (get_or-set_same slots (slice_index index (s.node.0 - 1)) s d slot_low)
        ∙ sym (node_at d) ∙ sym (ap (λ (n : ℕ). (slice_index_or slots n d).node.0) e)
    | inr ne ↦ ap (λ (x : Slot). x.node.0) (get_or-set_other slots (slice_index index (s.node.0 - 1)) k s d ne)
  ]

  pub stored_replaced : IsStored (slice_set slots (slice_index index (s.node.0 - 1)) s) index room
  stored_replaced =
      let long : length (slice_set slots (slice_index index (s.node.0 - 1)) s) ≡ length slots = length-set slots (slice_index index (s.node.0 - 1)) s in
      record {
        stands = λ k d lt. rw (node_set k d) (was.stands k d (omega (arith, lt, long)));
        back = λ q d lt there.
            let old = was.back q d lt there in
            (omega (arith, old.0, long), node_set (slice_index index q) d ∙ old.1);
        many = omega (arith, long, was.many);
        enough = was.enough;
        few = was.few;
      }

  pub labels_replaced : labels_in (slice_set slots (slice_index index (s.node.0 - 1)) s) index ≡ slice_set (labels_in slots index) s.node.0 s.label
  labels_replaced =
      let back : s.node.0 - 1 + 1 ≡ s.node.0 = omega (arith, from) in
      let at = slice_index index (s.node.0 - 1) in
      let long : length (slice_set slots (slice_index index (s.node.0 - 1)) s) ≡ length slots = length-set slots (slice_index index (s.node.0 - 1)) s in
      subst (λ (n : ℕ). labels_in (slice_set slots (slice_index index (s.node.0 - 1)) s) index ≡ slice_set (labels_in slots index) n s.label) back
      (set_labels slots (slice_set slots (slice_index index (s.node.0 - 1)) s) index index (s.node.0 - 1) s.label refl low
      (label_in_slot (slice_set slots (slice_index index (s.node.0 - 1)) s) (slice_index index (s.node.0 - 1)) s (omega (arith, slot_low, long))
      ∙ ap (λ (x : Slot). x.label) (get_or-set_same slots (slice_index index (s.node.0 - 1)) s s slot_low))
      other_label)
    where
      other_label : (q : ℕ) → q < length index → q ≢ s.node.0 - 1
          → label_in (slice_set slots (slice_index index (s.node.0 - 1)) s) (slice_index index q) ≡ label_in slots (slice_index index q)
      other_label q inside ne =
          let long : length (slice_set slots (slice_index index (s.node.0 - 1)) s) ≡ length slots = length-set slots (slice_index index (s.node.0 - 1)) s in
          elim (cases_lt (slice_index index q) (length slots)) [
            | inr past ↦
                label_in_past (slice_set slots (slice_index index (s.node.0 - 1)) s) (slice_index index q) (omega (arith, long, past))
                ∙ sym (label_in_past slots (slice_index index q) past)
            | inl lt ↦
                let apart : slice_index index q ≢ slice_index index (s.node.0 - 1) = λ e.
                let there : slice_index index q ≢ no_slot = λ z. some (sym e ∙ z) in
                let old = was.back q s inside there in
                let mine = was.back (s.node.0 - 1) s low some in
                let same : q + 1 ≡ s.node.0 - 1 + 1 = sym old.1 ∙ ap (λ (n : ℕ). (slice_index_or slots n s).node.0) e ∙ mine.1 in
                ne (omega (arith, same)) in
                label_in_slot (slice_set slots (slice_index index (s.node.0 - 1)) s) (slice_index index q) s (omega (arith, lt, long))
                ∙ ap (λ (x : Slot). x.label) (get_or-set_other slots (slice_index index (s.node.0 - 1)) (slice_index index q) s s apart)
                ∙ sym (label_in_slot slots (slice_index index q) s lt)
          ]

-- the last slot is taken away
module _ (slots : List Slot) (index : List ℕ) (room : ℕ) (s : Slot) (was : IsStored (slots ++ s ∷ []) index room) where
  longer : length (slots ++ s ∷ []) ≡ length slots + 1
  longer = length_push slots s

  at_last : slice_index_or (slots ++ s ∷ []) (length slots) s ≡ s
  at_last = get_or_push slots s s (length slots) refl

  pub popped_place : (1 ≤ s.node.0) × (s.node.0 ≤ length index) × (slice_index index (s.node.0 - 1) ≡ length slots)
  popped_place =
      let old = was.stands (length slots) s (omega (arith, longer)) in
      subst (λ (x : Slot). (1 ≤ x.node.0) × (x.node.0 ≤ length index) × (slice_index index (x.node.0 - 1) ≡ length slots)) at_last old

  place_low : s.node.0 - 1 < length index
  place_low = omega (arith, popped_place.0, popped_place.1)

  slots_few : length slots + 1 ≤ length index
  slots_few = omega (arith, longer, was.many)

  pub label_popped : label_at (labels_in (slots ++ s ∷ []) index) s.node.0 ≡ s.label
  label_popped =
      let back : s.node.0 - 1 + 1 ≡ s.node.0 = omega (arith, popped_place.0) in
      ap (label_at (labels_in (slots ++ s ∷ []) index)) (sym back) ∙ label_there (slots ++ s ∷ []) index (s.node.0 - 1) place_low
      ∙ ap (label_in (slots ++ s ∷ [])) popped_place.2 ∙ label_in_slot (slots ++ s ∷ []) (length slots) s (omega (arith, longer)) ∙ ap (λ (x : Slot). x.label) at_last

  -- where a slot has the number of another vertex, it is not the last
  not_last : (q : ℕ) → q < length index → q ≢ s.node.0 - 1 → slice_index index q ≢ no_slot → slice_index index q < length slots
  not_last q inside ne there =
      let old = was.back q s inside there in
      elim (cases_eq (slice_index index q) (length slots)) [
        | inl e ↦
            let same : (slice_index_or (slots ++ s ∷ []) (slice_index index q) s).node.0 ≡ s.node.0 =
            ap (λ (n : ℕ). (slice_index_or (slots ++ s ∷ []) n s).node.0) e ∙ ap (λ (x : Slot). x.node.0) at_last in
            absurd (ne (omega (arith, old.1, same)))
        | inr off ↦ omega (arith, old.0, longer, off)
      ]

  pub stored_popped : (room' : ℕ) → length index ≤ room' → IsStored slots (slice_set index (s.node.0 - 1) no_slot) room'
  stored_popped room' enough =
      let wide : length (slice_set index (s.node.0 - 1) no_slot) ≡ length index = length-set index (s.node.0 - 1) no_slot in
      let zero_before : ◌≡◌ {A = ℕ} (cond (slice_index index (s.node.0 - 1) == no_slot) 1 0) 0 =
      (let ne : slice_index index (s.node.0 - 1) ≢ no_slot = λ e. omega (arith, e, popped_place.2, slots_few, was.few) in grind (arith, nat_tests)) in
      record {
        stands = λ k d lt.
            let same : slice_index_or (slots ++ s ∷ []) k d ≡ slice_index_or slots k d = get_or_append_left slots (s ∷ []) d k lt in
            let old = subst (λ (x : Slot). (1 ≤ x.node.0) × (x.node.0 ≤ length index) × (slice_index index (x.node.0 - 1) ≡ k)) same (was.stands k d (omega (arith, lt, longer))) in
            let apart : (slice_index_or slots k d).node.0 - 1 ≢ s.node.0 - 1 = λ e.
            let at : slice_index index ((slice_index_or slots k d).node.0 - 1) ≡ length slots = ap (slice_index index) e ∙ popped_place.2 in
            omega (arith, at, old.2, lt) in
            (old.0, omega (arith, old.1, wide), get_or-set_other index (s.node.0 - 1) ((slice_index_or slots k d).node.0 - 1) no_slot 0 apart ∙ old.2);
        back = λ q d lt there. elim (cases_eq q (s.node.0 - 1)) [
          | inl e ↦
              absurd (there (ap (slice_index (slice_set index (s.node.0 - 1) no_slot)) e ∙ get_or-set_same index (s.node.0 - 1) no_slot 0 place_low))
          | inr ne ↦
              let at : slice_index (slice_set index (s.node.0 - 1) no_slot) q ≡ slice_index index q = get_or-set_other index (s.node.0 - 1) q no_slot 0 ne in
              let inside : q < length index = omega (arith, lt, wide) in
              let some : slice_index index q ≢ no_slot = λ e. there (at ∙ e) in
              let low = not_last q inside ne some in
              rw at (low, ap (λ (x : Slot). x.node.0) (sym (get_or_append_left slots (s ∷ []) d (slice_index index q) low)) ∙ (was.back q d inside some).1)
        ];
        many = omega (arith, wide, longer, was.many, zero_before, sum_by-set (λ (n : ℕ). cond (n == no_slot) 1 0) index (s.node.0 - 1) no_slot 0 place_low);
        enough = omega (arith, wide, enough);
        few = omega (arith, wide, was.few);
      }

  pub labels_popped : labels_in slots (slice_set index (s.node.0 - 1) no_slot) ≡ slice_set (labels_in (slots ++ s ∷ []) index) s.node.0 None
  labels_popped =
      let back : s.node.0 - 1 + 1 ≡ s.node.0 = omega (arith, popped_place.0) in
      subst (λ (n : ℕ). labels_in slots (slice_set index (s.node.0 - 1) no_slot) ≡ slice_set (labels_in (slots ++ s ∷ []) index) n None) back
      (set_labels (slots ++ s ∷ []) slots index (slice_set index (s.node.0 - 1) no_slot) (s.node.0 - 1) None (length-set index (s.node.0 - 1) no_slot) place_low
      (ap (label_in slots) (get_or-set_same index (s.node.0 - 1) no_slot 0 place_low) ∙ label_in_past slots no_slot (omega (arith, slots_few, was.few)))
      (λ q inside ne. ap (label_in slots) (get_or-set_other index (s.node.0 - 1) q no_slot 0 ne) ∙ same_label q inside ne))
    where
      same_label : (q : ℕ) → q < length index → q ≢ s.node.0 - 1 → label_in slots (slice_index index q) ≡ label_in (slots ++ s ∷ []) (slice_index index q)
      same_label q inside ne = elim (cases_eq (slice_index index q) no_slot) [
        | inl e ↦
            label_in_past slots (slice_index index q) (omega (arith, e, slots_few, was.few))
            ∙ sym (label_in_past (slots ++ s ∷ []) (slice_index index q) (omega (arith, e, longer, slots_few, was.few)))
        | inr some ↦
            let low = not_last q inside ne some in
            label_in_slot slots (slice_index index q) s low
            ∙ ap (λ (x : Slot). x.label) (sym (get_or_append_left slots (s ∷ []) s (slice_index index q) low))
            ∙ sym (label_in_slot (slots ++ s ∷ []) (slice_index index q) s (omega (arith, low, longer)))
      ]

-- no slots
pub none_stored : (index : List ℕ) → HasNone (labels_in [] index)
none_stored index zero = refl
none_stored index (suc q) = elim (cases_lt q (length index)) [
  | inl inside ↦ ap (label_at (labels_in [] index)) (sym (add-one q)) ∙ label_there [] index q inside
  | inr past ↦ get_or_past (labels_in [] index) (suc q) None (omega (arith, many_labels [] index, past))
]

pub all_none : (labels : List (Option Label)) (n : ℕ) → length labels ≡ n → HasNone labels → labels ≡ replicate n None
all_none labels n long none =
    same_labels labels (replicate n None) (long ∙ sym (length-replicate {A = Option Label} n None))
    (λ v lt. none v ∙ sym (get_or-replicate {A = Option Label} n v None None (omega (arith, lt, long))))

-- labels that go from one list to another, one after another
pub record IsMoving (old labels waiting : List (Option Label)) : Type 0 where
  pub many : length labels ≡ length old
  pub many_wait : length waiting ≡ length old
  pub each : (v : ℕ) → ((label_at labels v ≡ label_at old v) × (label_at waiting v ≡ None)) ⊎ ((label_at labels v ≡ None) × (label_at waiting v ≡ label_at old v))

pub moving_first : (old waiting : List (Option Label)) → length waiting ≡ length old → HasNone waiting → IsMoving old old waiting
moving_first old waiting long none = record { many = refl; many_wait = long; each = λ v. inl (refl, none v) }

-- a label that is put where none waits
put_alone : (waiting waiting' : List (Option Label)) (v : ℕ) (x : Label) → label_at waiting v ≡ None → IsPut waiting waiting' v x → label_at waiting' v ≡ Some x
put_alone waiting waiting' v x none put = elim put.is [
  | inl e ↦ put.held ∙ ap (λ (y : Label). Some y) e
  | inr stood ↦ let no : None ≡ Some put.y = sym none ∙ stood in absurd (cc)
]

pub moving_more : (old labels labels' waiting waiting' : List (Option Label)) (v : ℕ) (x : Option Label) → v < length labels → label_at labels v ≡ x
    → labels' ≡ slice_set labels v None → IsAdmitted waiting waiting' v x → IsMoving old labels waiting → IsMoving old labels' waiting'
moving_more old labels labels' waiting waiting' v None low here set admitted m = record {
  many = ap length set ∙ length-set labels v None ∙ m.many;
  many_wait = ap length admitted ∙ m.many_wait;
  each = λ u. elim (cases_eq u v) [
    | inl e ↦
        let now : label_at labels' u ≡ None =
        ap (λ (ls : List (Option Label)). label_at ls u) set ∙ ap (label_at (slice_set labels v None)) e ∙ get_or-set_same labels v None None low in
        elim (m.each u) [
          | inl h ↦ inr (now, ap (λ (ls : List (Option Label)). label_at ls u) admitted ∙ h.1 ∙ sym (sym h.0 ∙ ap (label_at labels) e ∙ here))
          | inr h ↦ inr (now, ap (λ (ls : List (Option Label)). label_at ls u) admitted ∙ h.1)
        ]
    | inr ne ↦
        let same : label_at labels' u ≡ label_at labels u = ap (λ (ls : List (Option Label)). label_at ls u) set ∙ get_or-set_other labels v u None None ne in
        let wait : label_at waiting' u ≡ label_at waiting u = ap (λ (ls : List (Option Label)). label_at ls u) admitted in
        elim (m.each u) [
          | inl h ↦ inl (same ∙ h.0, wait ∙ h.1)
          | inr h ↦ inr (same ∙ h.0, wait ∙ h.1)
        ]
  ];
}
moving_more old labels labels' waiting waiting' v (Some x) low here set admitted m = record {
  many = ap length set ∙ length-set labels v None ∙ m.many;
  many_wait = admitted.many ∙ m.many_wait;
  each = λ u. elim (cases_eq u v) [
    | inl e ↦
        let now : label_at labels' u ≡ None =
        ap (λ (ls : List (Option Label)). label_at ls u) set ∙ ap (label_at (slice_set labels v None)) e ∙ get_or-set_same labels v None None low in
        let at : label_at labels u ≡ Some x = ap (label_at labels) e ∙ here in
        elim (m.each u) [
          | inl h ↦
              let free : label_at waiting v ≡ None = ap (label_at waiting) (sym e) ∙ h.1 in
              inr (now, ap (label_at waiting') e ∙ put_alone waiting waiting' v x free admitted ∙ sym at ∙ h.0)
          | inr h ↦ let no : None ≡ Some x = sym h.0 ∙ at in absurd (cc)
        ]
    | inr ne ↦
        let same : label_at labels' u ≡ label_at labels u = ap (λ (ls : List (Option Label)). label_at ls u) set ∙ get_or-set_other labels v u None None ne in
        let wait : label_at waiting' u ≡ label_at waiting u = admitted.others u ne in
        elim (m.each u) [
          | inl h ↦ inl (same ∙ h.0, wait ∙ h.1)
          | inr h ↦ inr (same ∙ h.0, wait ∙ h.1)
        ]
  ];
}

pub moving_done : (old labels waiting : List (Option Label)) → IsMoving old labels waiting → HasNone labels → waiting ≡ old
moving_done old labels waiting m none = same_labels waiting old m.many_wait (λ v lt. elim (m.each v) [
  | inl h ↦ h.1 ∙ sym (none v) ∙ h.0
  | inr h ↦ h.1
])
