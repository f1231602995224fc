-- Labels and their order.
--     entries x                  the entries of the label x, in the order in which labels are compared
--     IsUpto x y                 x is y, or less: by the first entry in which they differ
--     after x m                  the label x, m seconds on
--     label_at labels v          the label of the vertex v, or None: entry v of the list, whose entry 0 is no vertex's
use Rattle.std.specs.Prelude.{◌≡◌, ℕ, ◌+◌, ◌⊎◌, List, [], ◌∷◌, Option, None, slice_index_or}
use Rattle.move_model.specs.Shortcut.{IsLess}
use Rattle.core_search.specs.declared.label.Label.{Label}
use Rattle.core_search.specs.declared.label.Rest.{Rest}

abbrev pub rest_entries : Rest → List ℕ
rest_entries r = r.a ∷ r.b ∷ r.trip ∷ r.ready ∷ r.y ∷ r.a1 ∷ r.c ∷ []

abbrev pub entries : Label → List ℕ
entries x = x.seconds ∷ rest_entries x.rest

abbrev pub IsUpto : Label → Label → Type 0
IsUpto x y = (x ≡ y) ⊎ IsLess (entries x) (entries y)

abbrev pub after : Label → ℕ → Label
after x m = record { seconds = x.seconds + m; rest = x.rest }

abbrev pub label_at : List (Option Label) → ℕ → Option Label
label_at labels v = slice_index_or labels v None
