-- Stamps and rounds.
use Rattle.std.proofs.Common.{◌≡◌, ℕ, ◌+◌, ◌<◌, ◌≤◌, true, false, List, [], ◌∷◌, map, length, set, nat_eq, refl, ap, ◌∙◌, arith}
use Rattle.std.specs.Prelude.{All, replicate}
use Rattle.std.proofs.lemmas.List.{map-set}
use Rattle.std.proofs.lemmas.List.Elements.{All-head, All-tail, All-weaker}
use Rattle.std.proofs.lemmas.Bool.{ne_eqb, eq-eqb}

-- stamps of earlier rounds mark nothing
pub none_marked : (stamps : List ℕ) (round : ℕ) → All (λ stamp. stamp < round) stamps → map (λ stamp. nat_eq stamp round) stamps ≡ replicate (length stamps) false
none_marked [] round before = refl
none_marked (x ∷ stamps) round before =
    let less = All-head (λ stamp. stamp < round) x stamps before in
    ap (λ b. b ∷ map (λ stamp. nat_eq stamp round) stamps) (ne_eqb x round (λ e. omega (arith, less, e)))
    ∙ ap (λ l. false ∷ l) (none_marked stamps round (All-tail (λ stamp. stamp < round) x stamps before))

pub all_before_next : (stamps : List ℕ) (round : ℕ) → All (λ stamp. stamp ≤ round) stamps → All (λ stamp. stamp < round + 1) stamps
all_before_next stamps round upto = All-weaker (λ stamp. stamp ≤ round) (λ stamp. stamp < round + 1) (λ x h. omega (arith, h)) stamps upto

-- the stamp of this round marks
pub one_marked : (stamps : List ℕ) (round i : ℕ) → map (λ stamp. nat_eq stamp round) (set stamps i round) ≡ set (map (λ stamp. nat_eq stamp round) stamps) i true
one_marked stamps round i =
    map-set (λ stamp. nat_eq stamp round) stamps i round
    ∙ ap (λ b. set (map (λ stamp. nat_eq stamp round) stamps) i b) (eq-eqb round round refl)
