-- How labels are stored: in slots, one for each vertex that had a label, and for each vertex the number of its slot.
--     labels_in slots index          the label of each vertex, behind an entry for no vertex
--     IsStored slots index room      the slots and their numbers belong together, and there is room for a slot of each vertex
use Rattle.std.specs.Prelude.{◌≡◌, ◌≢◌, ◌==◌, ℕ, ◌+◌, ◌-◌, ◌^◌, ◌<◌, ◌≤◌, List, ◌∷◌, Option, Some, None, length, map, count_by, slice_get, slice_index, slice_index_or}
use Rattle.core_search.specs.declared.label.Label.{Label}
use Rattle.core_search.specs.declared.labels.Slot.{Slot}

abbrev pub no_slot : ℕ
no_slot = 4294967295

abbrev pub label_of : Option Slot → Option Label
label_of None = None
label_of (Some slot) = slot.label

abbrev pub label_in : List Slot → ℕ → Option Label
label_in slots at = label_of (slice_get slots at)

abbrev pub labels_in : List Slot → List ℕ → List (Option Label)
labels_in slots index = None ∷ map (label_in slots) index

pub record IsStored (slots : List Slot) (index : List ℕ) (room : ℕ) : Type 0 where
  pub stands : (k : ℕ) (d : Slot) → k < length slots
      → (1 ≤ (slice_index_or slots k d).node.0) × ((slice_index_or slots k d).node.0 ≤ length index)
      × (slice_index index ((slice_index_or slots k d).node.0 - 1) ≡ k)
  pub back : (p : ℕ) (d : Slot) → p < length index → slice_index index p ≢ no_slot
      → (slice_index index p < length slots) × ((slice_index_or slots (slice_index index p) d).node.0 ≡ p + 1)
  pub many : length slots + count_by (λ at. at == no_slot) index ≡ length index
  pub enough : length index ≤ room
  pub few : length index < 2 ^ 32
