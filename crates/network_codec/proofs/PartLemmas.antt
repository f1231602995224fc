-- What writes that stopped leave, as the first bytes of the whole.
use Rattle.std.proofs.Common.{◌≡◌, ◌∙◌, ℕ, zero, suc, ◌+◌, ◌<◌, ◌≤◌, List, [], ◌∷◌, ◌++◌, length, take, Option, Some, refl, sym, ap, inl, inr, ◌⊎◌, arith}
use Rattle.std.specs.Prelude.{Result, Ok, Err, OnErr}
use Rattle.std.proofs.lemmas.Bool.{cases_lt}
use Rattle.std.proofs.lemmas.List.{take_all, take_at, take-append-le}
use Rattle.move_files.specs.Outside.{HoldsPrefix, behind}
use Rattle.network_codec.specs.Part.{HoldsPartOf}

past : (xs ys : List ℕ) (n k : ℕ) → k ≡ length xs + n → take k (xs ++ ys) ≡ xs ++ take n ys
past [] ys n k e = ap (λ (m : ℕ). take m ys) (let f : k ≡ n = omega arith in f)
past (x ∷ xs) ys n zero e = absurd (omega arith)
past (x ∷ xs) ys n (suc k) e = ap (λ (t : List ℕ). x ∷ t) (past xs ys n k (omega arith))

pub begun : (old new : Option (List ℕ)) (bytes : List ℕ) → (new ≡ old) ⊎ (new ≡ Some []) → HoldsPartOf old bytes new
begun old new bytes (inl same) = inl same
begun old new bytes (inr none) = inr (0, none)

pub front_written : (old mid new : Option (List ℕ)) (head body : List ℕ) → mid ≡ Some [] → HoldsPrefix mid head new → HoldsPartOf old (head ++ body) new
front_written old mid new head body begun (inl same) = inr (0, same ∙ begun)
front_written old mid new head body begun (inr (n, e)) =
    let told : new ≡ Some (take n head) = e ∙ ap (λ (held : Option (List ℕ)). Some (behind held (take n head))) begun in
    elim (cases_lt (length head) n) [
      | inl over ↦ inr (length head, told ∙ ap (λ (x : List ℕ). Some x) (take_all n head (omega arith) ∙ sym (take_at head body (length head) refl)))
      | inr within ↦ inr (n, told ∙ ap (λ (x : List ℕ). Some x) (sym (take-append-le n head body within)))
    ]

pub back_written : (old mid new : Option (List ℕ)) (head body : List ℕ) → mid ≡ Some head → HoldsPrefix mid body new → HoldsPartOf old (head ++ body) new
back_written old mid new head body held (inl same) = inr (length head, same ∙ held ∙ ap (λ (x : List ℕ). Some x) (sym (take_at head body (length head) refl)))
back_written old mid new head body held (inr (n, e)) =
    let told : new ≡ Some (head ++ take n body) = e ∙ ap (λ (h : Option (List ℕ)). Some (behind h (take n body))) held in
    inr (length head + n, told ∙ ap (λ (x : List ℕ). Some x) (sym (past head body n (length head + n) refl)))

-- what holds anyway holds after an error
pub on_err : {X E : Type 0} (r : Result X E) (P : Type 0) → P → OnErr r P
on_err (Ok x) P p = tt
on_err (Err e) P p = p
