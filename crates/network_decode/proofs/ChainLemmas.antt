-- Sections one behind the other.
use Rattle.std.proofs.Common.{◌≡◌, ◌∙◌, ℕ, zero, suc, ◌<◌, ◌≤◌, List, [], ◌∷◌, ◌++◌, length, take, get_or, append_assoc, sym, ap, arith}
use Rattle.std.specs.List.{concat}
use Rattle.std.proofs.lemmas.List.{append-nil}
use Rattle.network_file.specs.declared.compiled.Compiled.{Compiled}
use Rattle.network_codec.specs.declared.version.Version.{Version}
use Rattle.network_codec.specs.Form.{sections}
use Rattle.network_codec.specs.Rules.{KeepsSections}
use Rattle.network_codec.specs.File.{Begins}

concat_more : (xs : List (List ℕ)) (k : ℕ) (rest : List ℕ) → k < length xs → concat (take (suc k) xs) ++ rest ≡ concat (take k xs) ++ (get_or xs k [] ++ rest)
concat_more [] k rest lt = absurd (omega arith)
concat_more (x ∷ xs) zero rest lt = ap (λ (t : List ℕ). t ++ rest) (append-nil x)
concat_more (x ∷ xs) (suc k) rest lt =
    append_assoc x (concat (take (suc k) xs)) rest
    ∙ ap (λ (t : List ℕ). x ++ t) (concat_more xs k rest (omega arith))
    ∙ sym (append_assoc x (concat (take k xs)) (get_or xs k [] ++ rest))

keep_fewer : (j k : ℕ) (v : Version) (c : Compiled) → j ≤ k → KeepsSections k v c → KeepsSections j v c
keep_fewer j k v c fewer h = record {
  streets = λ le. h.streets (omega arith);
  stops = λ le. h.stops (omega arith);
  trips = λ le. h.trips (omega arith);
  ranks = λ le. h.ranks (omega arith);
  up = λ le. h.up (omega arith);
  down = λ le. h.down (omega arith);
  to = λ le. h.to (omega arith);
  from = λ le. h.from (omega arith);
  shortcuts = λ le. h.shortcuts (omega arith);
}

-- the last section counts as what stands behind the others
pub shorter : (k : ℕ) (v : Version) (c : Compiled) (body rest : List ℕ) → k < 9 → Begins (suc k) v c body rest → Begins k v c body (get_or (sections v c) k [] ++ rest)
shorter k v c body rest lt h = record {
  parts = h.parts ∙ concat_more (sections v c) k rest lt;
  rules = keep_fewer k (suc k) v c (omega arith) h.rules;
}

-- and with one more section
pub longer : (k : ℕ) (v : Version) (c d : Compiled) (body bytes rest : List ℕ) → k < 9 → Begins k v c body bytes → take k (sections v c) ≡ take k (sections v d) → bytes ≡ get_or (sections v d) k [] ++ rest
    → KeepsSections (suc k) v d → Begins (suc k) v d body rest
longer k v c d body bytes rest lt h same front rules = record {
  parts =
      h.parts
      ∙ ap (λ (t : List (List ℕ)). concat t ++ bytes) same
      ∙ ap (λ (t : List ℕ). concat (take k (sections v d)) ++ t) front
      ∙ sym (concat_more (sections v d) k rest lt);
  rules = rules;
}
