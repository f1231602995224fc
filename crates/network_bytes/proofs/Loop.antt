-- Reading items one after the other, as a loop does.
use Rattle.std.proofs.Common.{◌≡◌, ℕ, suc, ◌-◌, ◌+◌, ◌≤◌, ◌<◌, List, [], ◌∷◌, ◌++◌, Option, Some, None, refl, sym, ap, ◌∙◌, append_assoc, arith}
use Rattle.std.proofs.lemmas.List.{append-nil}
use Rattle.network_bytes.specs.declared.stop.ReadStop.{ReadStop}
use Rattle.network_bytes.specs.declared.stop.ReadStop.TheVariants as stop
use Rattle.network_bytes.specs.Front.{◌>>=◌, Fails, items_at}

-- what was read before, and what is still read
abbrev pub with_front : {X : Type 0} → List X → Option (List X × List ℕ) → Option (List X × List ℕ)
with_front before found = found >>= λ x. Some (before ++ x.0, x.1)

regroup : {X : Type 0} (before : List X) (item : X) (found : Option (List X × List ℕ)) → with_front before (found >>= λ x. Some (item ∷ x.0, x.1)) ≡ with_front (before ++ item ∷ []) found
regroup {X} before item (Some x) = ap (λ (items : List X). Some (items, x.1)) (simp append_assoc)
regroup before item None = refl

pub goes_on : {X : Type 0} (front : List ℕ → Option (X × List ℕ)) (before : List X) (count i : ℕ) (bytes : List ℕ) (item : X) (after : List ℕ) (total : Option (List X × List ℕ)) → i < count → front bytes ≡ Some (item, after)
    → with_front before (items_at front (count - i) bytes) ≡ total → with_front (before ++ item ∷ []) (items_at front (count - (i + 1)) after) ≡ total
unfolding items_at
goes_on front before count i bytes item after total lt h so_far =
    let k : count - i ≡ suc (count - (i + 1)) = omega arith in
    let one : with_front before (items_at front (count - i) bytes) ≡ with_front (before ++ item ∷ []) (items_at front (count - (i + 1)) after) = rw (k, h) (regroup before item (items_at front (count - (i + 1)) after)) in
    sym one ∙ so_far

pub ends : {X : Type 0} (front : List ℕ → Option (X × List ℕ)) (e : ReadStop) (before : List X) (count i : ℕ) (bytes : List ℕ) (total : Option (List X × List ℕ)) → i < count → Fails e (front bytes)
    → with_front before (items_at front (count - i) bytes) ≡ total → Fails e total
unfolding items_at
ends front stop.NoMemory before count i bytes total lt h so_far = tt
ends {X} front stop.Broken before count i bytes total lt h so_far =
    let k : count - i ≡ suc (count - (i + 1)) = omega arith in
    let one : with_front before (items_at front (count - i) bytes) ≡ None = rw (k, h) refl in
    sym so_far ∙ one

pub is_done : {X : Type 0} (front : List ℕ → Option (X × List ℕ)) (before : List X) (count i : ℕ) (bytes : List ℕ) (total : Option (List X × List ℕ)) → count ≤ i → with_front before (items_at front (count - i) bytes) ≡ total → total ≡ Some (before, bytes)
unfolding items_at
is_done {X} front before count i bytes total le so_far =
    let k : count - i ≡ 0 = omega arith in
    let one : with_front before (items_at front (count - i) bytes) ≡ Some (before, bytes) = rw k (ap (λ (items : List X). Some (items, bytes)) (append-nil before)) in
    sym so_far ∙ one
