-- Vectors in a vector, seen as lists in a list, where one of them changes.
use Rattle.std.proofs.Common.{◌≡◌, ◌≢◌, ℕ, ◌<◌, List, [], length, map, get_or, set, take, drop, ◌++◌, Vec, Global, slice_index_or, arith, sym, ap, subst, ◌∙◌}
use Rattle.std.proofs.lemmas.List.{get_or-set_same, get_or-set_other, length-set, length-map, map-set, get_or-map, take-append-le, take_all}

module _ {X : Type 0} (vs : List (Vec X Global)) (old : List (List X)) (at : ℕ) (e : map (λ (v : Vec X Global). v.items) vs ≡ old) (within : at < length old) where
  short : at < length vs
  short = subst (λ (n : ℕ). at < n) (ap length (sym e) ∙ length-map vs (λ (v : Vec X Global). v.items)) within

  pub old_viewed : (read : Vec X Global) → read ≡ get_or vs at read → read.items ≡ slice_index_or old at []
  old_viewed read is =
      ap (λ (v : Vec X Global). v.items) is ∙ sym (get_or-map (λ (v : Vec X Global). v.items) vs at read [] short) ∙ ap (λ (xs : List (List X)). slice_index_or xs at []) e

  set_viewed : (w : Vec X Global) → map (λ (v : Vec X Global). v.items) (set vs at w) ≡ set old at w.items
  set_viewed w = map-set (λ (v : Vec X Global). v.items) vs at w ∙ ap (λ (xs : List (List X)). set xs at w.items) e

  pub new_viewed : (w : Vec X Global) → w.items ≡ slice_index_or (map (λ (v : Vec X Global). v.items) (set vs at w)) at []
  new_viewed w = sym (ap (λ (xs : List (List X)). slice_index_or xs at []) (set_viewed w) ∙ get_or-set_same old at w.items [] within)

  pub other_viewed : (w : Vec X Global) (r : ℕ) → r ≢ at → slice_index_or (map (λ (v : Vec X Global). v.items) (set vs at w)) r [] ≡ slice_index_or old r []
  other_viewed w r ne = ap (λ (xs : List (List X)). slice_index_or xs r []) (set_viewed w) ∙ get_or-set_other old at r w.items [] ne

  pub many_viewed : (w : Vec X Global) → length (map (λ (v : Vec X Global). v.items) (set vs at w)) ≡ length old
  many_viewed w = ap length (set_viewed w) ∙ length-set old at w.items

-- a list written back over one as long
pub written : {X : Type 0} (new old : List X) (n : ℕ) → length new ≡ n → take n (new ++ drop (length new) old) ≡ new
written new old n e = take-append-le n new (drop (length new) old) (omega arith) ∙ take_all n new (omega arith)
