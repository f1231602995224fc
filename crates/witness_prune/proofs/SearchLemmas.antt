-- What a search keeps true: when it is made, begun, and after a step.
use Rattle.std.proofs.Common.{◌≡◌, ℕ, zero, suc, ◌^◌, ◌<◌, ◌≤◌, ◌⊎◌, inl, inr, List, [], ◌∷◌, length, subst, arith}
use Rattle.std.proofs.lemmas.List.Elements.{All-weaker, All-contains_itself, All-cons, All-nil}
use Rattle.std.specs.Prelude.{◌↔◌, All, Contains}
use Rattle.move_model.specs.declared.network.Network.{Network}
use Rattle.move_model.specs.declared.network.StopNo.{StopNo}
use Rattle.route_split.specs.Route.{Route, IsRoute}
use Rattle.route_split.specs.Table.{Table}
use Rattle.stop_rows.specs.Rows.{Rows, place_at}
use Rattle.piece_laws.specs.Pieces.{IsNeeded}
use Rattle.piece_laws.proofs.Starts.{needed_together}
use Rattle.witness_prune.specs.declared.scratch.Scratch.{Scratch}
use Rattle.witness_prune.specs.Needed.{Pair}
use Rattle.witness_prune.specs.Labels.{kept_of, IsNone}
use Rattle.witness_prune.specs.Scratch.{parts_at, IsFootFrom, FitsScratch, IsAt, AddsNeeded}
use Rattle.witness_prune.specs.Search.{IsNeededFrom, AreParts, IsSearch}
use Rattle.witness_prune.proofs.NoneLemmas.{kept_none}
use Rattle.witness_prune.proofs.NeededTable.{all_rows, place_parts}

pub search_made : (n : Network) (rows : Rows) (table : Table) (routes : List Route) (place : ℕ) (s : Scratch) → AreParts n rows table → routes ≡ table.routes
    → All (IsRoute table.stops) routes → FitsScratch routes rows s → IsSearch n rows table routes place 0 s
search_made n rows table routes place s parts same whole fits = record {
  parts = parts;
  routes_are = same;
  whole = subst (λ (m : ℕ). All (IsRoute m) routes) parts.table_is.stops_are whole;
  fits = fits;
  at = λ some. absurd (omega (arith, some));
}

pub search_begun : (n : Network) (rows : Rows) (table : Table) (routes : List Route) (old place below : ℕ) (before s : Scratch) → IsSearch n rows table routes old below before
    → place < length rows.nodes → FitsScratch routes rows s → IsFootFrom rows place s.foot.items → IsNone routes rows (kept_of s.labels)
    → IsSearch n rows table routes place (2 ^ 32) s
search_begun n rows table routes old place below before s is within fits on_foot none = record {
  parts = is.parts;
  routes_are = is.routes_are;
  whole = is.whole;
  fits = fits;
  at = λ some. record {
    exists = within;
    foot = on_foot;
    kept = λ q here.
        kept_none n q (2 ^ 32) (parts_at routes rows place s.foot.items) rows (kept_of s.labels)
        (place_parts n rows table is.parts routes is.routes_are is.whole q place here s.foot.items on_foot) none;
  };
}

pub search_stepped : (n : Network) (rows : Rows) (table : Table) (routes : List Route) (place below second : ℕ) (before s : Scratch) → IsSearch n rows table routes place below before
    → second < below → FitsScratch routes rows s
    → ((n : Network) (z : ℕ) → AreParts n rows table → second ≤ z → IsAt n rows routes place z before → IsAt n rows routes place second s)
    → IsSearch n rows table routes place second s
search_stepped n rows table routes place below second before s is low fits goes = record {
  parts = is.parts;
  routes_are = is.routes_are;
  whole = is.whole;
  fits = fits;
  at = λ some. goes n below is.parts (omega (arith, low)) (is.at (omega (arith, low)));
}

pub stops_exist : (n : Network) (rows : Rows) (table : Table) (place : ℕ) (us : List StopNo) → AreParts n rows table
    → ((x : StopNo) → Contains us x ↔ ((x.0 < length rows.places) × (place_at rows x ≡ place))) → All (λ s. s.0 < table.stops) us
stops_exist n rows table place us parts at =
    All-weaker (Contains us) (λ (s : StopNo). s.0 < table.stops)
    (λ x has. let low = ((at x).0 has).0 in omega (arith, low, parts.table_is.stops_are, (all_rows n rows table parts).one_each)) us (All-contains_itself us)

pub stop_exists : (n : Network) (rows : Rows) (table : Table) (x : StopNo) → AreParts n rows table → x.0 < length n.stops → All (λ s. s.0 < table.stops) (x ∷ [])
stop_exists n rows table x parts within = All-cons (λ (s : StopNo). s.0 < table.stops) x [] (omega (arith, within, parts.table_is.stops_are)) (All-nil (λ (s : StopNo). s.0 < table.stops))

one_stop : (x u : StopNo) → Contains (x ∷ []) u → x ≡ u
one_stop x u (zero, low, is) = is
one_stop x u (suc k, low, is) = absurd (omega arith)

pub stop_stands : (rows : Rows) (place : ℕ) (x : StopNo) → place_at rows x ≡ place → (u : StopNo) → Contains (x ∷ []) u → place_at rows u ≡ place
stop_stands rows place x at u has = subst (λ (s : StopNo). place_at rows s ≡ place) (one_stop x u has) at

-- the stops of a place
pub needed_from : (n : Network) (rows : Rows) (place z : ℕ) (us : List StopNo) (old new : List Pair) → length rows.places ≡ length n.stops
    → ((x : StopNo) → Contains us x ↔ ((x.0 < length rows.places) × (place_at rows x ≡ place))) → AddsNeeded n us z old new
    → (x y : StopNo) → Contains new (x, y) ↔ (Contains old (x, y) ⊎ IsNeededFrom n rows place z x y)
needed_from n rows place z us old new many at adds x y = (there, back)
  where
    from_us : IsNeeded n us z x y → IsNeededFrom n rows place z x y
    from_us h =
        let t = (needed_together n us z x y).0 h in
        let s = (at t.0).0 t.1 in
        record { u = t.0; exists = omega (arith, s.0, many); stands = s.1; needed = t.2 }

    to_us : IsNeededFrom n rows place z x y → IsNeeded n us z x y
    to_us h = (needed_together n us z x y).1 (h.u, (at h.u).1 (omega (arith, h.exists, many), h.stands), h.needed)

    there : Contains new (x, y) → Contains old (x, y) ⊎ IsNeededFrom n rows place z x y
    there h = elim ((adds x y).0 h) [ inl was ↦ inl was | inr new_one ↦ inr (from_us new_one) ]

    back : Contains old (x, y) ⊎ IsNeededFrom n rows place z x y → Contains new (x, y)
    back h = elim h [ inl was ↦ (adds x y).1 (inl was) | inr f ↦ (adds x y).1 (inr (to_us f)) ]
