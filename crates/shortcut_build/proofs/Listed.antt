-- The pairs that are needed from all starts are the list of shortcuts.
use Rattle.std.proofs.Common.{◌≡◌, ℕ, ◌+◌, ◌<◌, ◌⊎◌, List, [], ◌∷◌, Some, length, slice_index_or, map, refl, sym, ap, ◌∙◌, subst, inl, inr, arith}
use Rattle.std.specs.Prelude.{◌↔◌, All, Contains}
use Rattle.std.proofs.lemmas.Option.{slice_get-get_or}
use Rattle.std.proofs.lemmas.List.{get_or_default}
use Rattle.std.proofs.lemmas.List.Elements.{Contains-get_or}
use Rattle.move_model.specs.declared.network.Network.{Network}
use Rattle.move_model.specs.declared.network.StopNo.{StopNo}
use Rattle.move_model.specs.Check.{KeepsRules}
use Rattle.move_model.specs.Network.{streets, node_of, IsStopDistance}
use Rattle.move_model.specs.Shortcut.{IsStart, IsShortcutList}
use Rattle.piece_laws.proofs.Starts.{needed_start}
use Rattle.stop_rows.specs.Rows.{Rows, HoldsRows, IsEntry, place_at, entry}
use Rattle.start_seconds.specs.declared.start.Start.{Start}
use Rattle.start_seconds.specs.Starts.{AreStarts}
use Rattle.shortcut_laws.specs.Pairs.{Pair, IsPairNeeded, AreNeededPairs, ArePairsRising, shortcut_of}
use Rattle.shortcut_laws.proofs.Needed.{list_is, only_start, stops_exist, start_exists, walk_within}
use Rattle.witness_prune.specs.Needed.{IsRising, no_pair}
use Rattle.shortcut_build.specs.Collected.{HasNeeded, seconds_by}

-- the entry at the places of a needed pair is the distance of its stops
pub seconds_are : (n : Network) (rows : Rows) (x y : StopNo) → KeepsRules n → HoldsRows n rows → IsPairNeeded n x y → IsStopDistance n x y (seconds_by rows x y)
seconds_are n rows x y rules holds is =
    let stops = stops_exist n x y rules.network is in
    let walk = walk_within n x y rules is in
    let entries : IsEntry (streets n) (node_of n x) (node_of n y) (entry rows (place_at rows x) (place_at rows y)) =
    holds.distances _ _ _ _ (holds.places.stands x stops.0) (holds.places.stands y stops.1) in
    let same = (entries.exact walk.0).1 (walk.2, walk.1) in
    subst (λ (m : ℕ). IsStopDistance n x y m) (sym same.0) walk.2

module _ (n : Network) (rows : Rows) (starts : List Start) (pairs : List Pair) (rules : KeepsRules n) (holds : HoldsRows n rows) (are : AreStarts n rows starts)
    (collected : (x y : StopNo) → Contains pairs (x, y) ↔ (Contains {X = Pair} [] (x, y) ⊎ HasNeeded n rows starts (length starts) x y)) where
  -- a pair that is needed is needed from one of the starts
  from_start : (x y : StopNo) → IsPairNeeded n x y → HasNeeded n rows starts (length starts) x y
  from_start x y is =
      let at = needed_start n (is.u ∷ []) is.z x y is.needed in
      let start : IsStart n is.u is.z = only_start n is.u at.0 is.z at.1 at.2 in
      let exists = start_exists n is.u is.z rules.network start in
      let here : Start = record { place = place_at rows is.u; second = is.z } in
      let has : Contains starts (record { place = place_at rows is.u; second = is.z }) = (are.exact here).1 (record {
        stop = is.u;
        exists = exists;
        stands = refl;
        is_start = start;
      }) in
      record {
        i = has.0;
        start = record { place = place_at rows is.u; second = is.z };
        is_start = slice_get-get_or starts has.0 here has.1 ∙ ap (λ (s : Start). Some s) has.2;
        before = has.1;
        needed = record { u = is.u; exists = exists; stands = refl; needed = is.needed };
      }

  pub needed_pairs : AreNeededPairs n pairs
  needed_pairs x y = (
    λ h. elim ((collected x y).0 h) [
      | inl none ↦ absurd (omega (arith, none.1))
      | inr has ↦ record { u = has.needed.u; z = has.start.second; needed = has.needed.needed }
    ],
    λ is. (collected x y).1 (inr (from_start x y is)),
  )

  pub list_built : ArePairsRising pairs → IsShortcutList n (map (shortcut_of (seconds_by rows)) pairs)
  list_built rising = list_is n (seconds_by rows) pairs rising needed_pairs (λ x y is. seconds_are n rows x y rules holds is)

  -- the stops of each pair have places
  pub pairs_within : All (λ pair. (pair.0.0 < length rows.places) × (pair.1.0 < length rows.places)) pairs
  pairs_within k d low =
      let p = slice_index_or pairs k d in
      let is = (needed_pairs p.0 p.1).0 (Contains-get_or pairs k d low) in
      let stops = stops_exist n p.0 p.1 rules.network is in
      (omega (arith, stops.0, holds.places.one_each), omega (arith, stops.1, holds.places.one_each))

-- pairs that rise, each before all later ones, stand each before the next one
pub next_rises : (pairs : List Pair) → IsRising pairs → ArePairsRising pairs
next_rises pairs rising k d low =
    let here = get_or_default pairs k d no_pair (omega (arith, low)) in
    let next = get_or_default pairs (k + 1) d no_pair low in
    rw (here, next) (rising.each k (k + 1) (omega arith) low)

-- what was collected, told of what is known to be the same
pub collected_as : (n n' : Network) (rows rows' : Rows) (ss ss' : List Start) (old new new' : List Pair) → n ≡ n' → rows ≡ rows' → ss ≡ ss' → old ≡ [] → new ≡ new'
    → ((x y : StopNo) → Contains new (x, y) ↔ (Contains old (x, y) ⊎ HasNeeded n rows ss (length ss) x y))
    → (x y : StopNo) → Contains new' (x, y) ↔ (Contains {X = Pair} [] (x, y) ⊎ HasNeeded n' rows' ss' (length ss') x y)
collected_as n n' rows rows' ss ss' old new new' network at starts none pairs told x y =
    subst (λ (m : Network). Contains new' (x, y) ↔ (Contains {X = Pair} [] (x, y) ⊎ HasNeeded m rows' ss' (length ss') x y)) network
    (subst (λ (r : Rows). Contains new' (x, y) ↔ (Contains {X = Pair} [] (x, y) ⊎ HasNeeded n r ss' (length ss') x y)) at
    (subst (λ (s : List Start). Contains new' (x, y) ↔ (Contains {X = Pair} [] (x, y) ⊎ HasNeeded n rows s (length s) x y)) starts
    (subst (λ (o : List Pair). Contains new' (x, y) ↔ (Contains o (x, y) ⊎ HasNeeded n rows ss (length ss) x y)) none
    (subst (λ (ps : List Pair). Contains ps (x, y) ↔ (Contains old (x, y) ⊎ HasNeeded n rows ss (length ss) x y)) pairs (told x y)))))
