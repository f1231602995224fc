-- What the rules of a row say of its query.
use Rattle.std.proofs.Common.{◌≡◌, ◌∙◌, ◌+◌, ◌-◌, ◌<◌, ◌≤◌, ℕ, suc, List, [], ◌∷◌, length, drop, get_or, map, Bool, true, false, Option, Some, None, refl, sym, subst, arith}
use Rattle.std.specs.Prelude.{All, find, codes, not, is_some, cond, nat_lt, nat_le, ◌&&◌, if◌then◌else◌}
use Rattle.std.proofs.lemmas.Bool.Decides.{nat_tests}
use Rattle.std.proofs.lemmas.List.{get_or-map, length-map}
use Rattle.move_model.specs.declared.network.Network.{Network}
use Rattle.move_model.specs.declared.network.NodeNo.{NodeNo}
use Rattle.move_model.specs.declared.network.Stop.{Stop}
use Rattle.move_model.specs.declared.query.Query.{Query}
use Rattle.move_model.specs.declared.query.Query.TheVariants as query
use Rattle.move_model.specs.declared.refusal.Cause.{Cause}
use Rattle.move_model.specs.declared.refusal.Cause.TheVariants as cause
use Rattle.move_model.specs.Check.{Stands}
use Rattle.move_model.specs.Network.{streets, node_of_stop}
use Rattle.move_model.specs.Streets.{IsVertex}
use Rattle.refusals.specs.Refusal.{HoldAt, Accepted, or_then}
use Rattle.tables.specs.Table.{cell, rows_of, row_at}
use Rattle.tables.specs.Values.{number_of, number_in, is_within, time_in, time_broken}
use Rattle.tables.proofs.ValueLemmas.{number_in-within, time_in-le}
use Rattle.query_table.specs.declared.columns.Columns.{Columns}
use Rattle.query_table.specs.Places.{begins, stop_named, node_broken, stop_broken, place_broken, node_in, place_in}
use Rattle.query_table.specs.Rules.{is_range, window_broken, last_broken, query_rules, query_of}
use Rattle.query_table.specs.Queries.{IsQuery, IsQueryTable, columns_in, queries_of}

found-of : {X : Type 0} (P : X → Type 0) (b : Bool) (x s : X) (found : Option X) → P x → (found ≡ Some s → P s) → cond b (Some x) found ≡ Some s → P s
found-of P true x s found here later e = let there : x ≡ s = cc e in subst P there here
found-of P false x s found here later e = later e

found-holds : {X : Type 0} (P : X → Type 0) (p : X → Bool) (xs : List X) (s : X) → All P xs → find p xs ≡ Some s → P s
found-holds P p [] s a e = cc e
found-holds P p (x ∷ xs) s a e = found-of P (p x) x s (find p xs) (a 0 x (omega arith)) (found-holds P p xs s (λ k d lt. a (suc k) d (omega arith))) e

stop_vertex : (n : Network) (o : Option Stop) (c : Cause) → ((s : Stop) → o ≡ Some s → IsVertex (streets n) s.node) → (if is_some o then None else Some c) ≡ None → IsVertex (streets n) (node_of_stop o)
stop_vertex n None c f e = cc e
stop_vertex n (Some s) c f e = f s refl

within-of : (b c : Bool) (x y : Cause) → (if b then Some x else if c then None else Some y) ≡ None → c ≡ true
within-of true c x y e = cc e
within-of false true x y e = refl
within-of false false x y e = cc e

both : (a b : Bool) → (a && b) ≡ true → (a ≡ true) × (b ≡ true)
both true b e = (refl, e)
both false b e = cc e

le-of : (a b : ℕ) → nat_le a b ≡ true → a ≤ b
le-of a b e = grind (arith, nat_tests)

number_vertex : (n : Network) (text : List ℕ) → node_broken n text ≡ None → IsVertex (streets n) (record { 0 = number_in text })
unfolding node_broken
number_vertex n text e =
    let inside = within-of (not (is_some (number_of text))) (is_within 1 n.nodes text) cause.Place (cause.Vertex (number_in text)) e in
    let parts = both (is_some (number_of text) && nat_le 1 (number_in text)) (nat_le (number_in text) n.nodes) inside in
    let low = both (is_some (number_of text)) (nat_le 1 (number_in text)) parts.0 in
    record { from_one = le-of 1 (number_in text) low.1; to_nodes = le-of (number_in text) n.nodes parts.1 }

named_vertex : (n : Network) (id : List ℕ) → All (Stands n) n.stops → stop_broken n id ≡ None → IsVertex (streets n) (node_of_stop (stop_named id n.stops))
unfolding stop_broken
named_vertex n id stand e = stop_vertex n (stop_named id n.stops) cause.UnknownStop (λ s there. found-holds (Stands n) _ n.stops s stand there) e

by-cases : (n : Network) (b c : Bool) (x y : Option Cause) (v w : NodeNo) → (x ≡ None → IsVertex (streets n) v) → (y ≡ None → IsVertex (streets n) w)
    → (if b then x else if c then y else Some cause.Place) ≡ None → IsVertex (streets n) (if b then v else w)
by-cases n true c x y v w f g e = f e
by-cases n false true x y v w f g e = g e
by-cases n false false x y v w f g e = cc e

-- a place that breaks no rule is a vertex
place_vertex : (n : Network) (text : List ℕ) → All (Stands n) n.stops → place_broken n text ≡ None → IsVertex (streets n) (node_in n text)
unfolding place_broken node_in
place_vertex n text stand e =
    by-cases n (begins (codes "node:") text) (begins (codes "stop:") text) (node_broken n (drop 5 text)) (stop_broken n (drop 5 text)) _ _
    (number_vertex n (drop 5 text)) (named_vertex n (drop 5 text) stand) e

neither : (o p : Option Cause) → or_then o p ≡ None → (o ≡ None) × (p ≡ None)
neither None p e = (refl, e)
neither (Some c) p e = cc e

window-parts : (b c : Bool) (x y : Cause) → (if b then Some x else if c then None else Some y) ≡ None → (b ≡ false) × (c ≡ true)
window-parts true c x y e = cc e
window-parts false true x y e = (refl, refl)
window-parts false false x y e = cc e

not-less : (a b : ℕ) → nat_lt b a ≡ false → a ≤ b
not-less a b e = grind (arith, nat_tests)

window_within : (first last : ℕ) → window_broken first last ≡ None → (first ≤ last) × (last - first + 1 ≤ 86400)
unfolding window_broken
window_within first last e =
    let parts = window-parts (nat_lt last first) (nat_le (last - first + 1) 86400) (cause.Window 0) (cause.Window (last - first + 1)) e in
    (not-less first last parts.0, le-of (last - first + 1) 86400 parts.1)

last_within : (range : Bool) (first : ℕ) (text : List ℕ) → range ≡ true → last_broken range first text ≡ None → (first ≤ time_in text) × (time_in text - first + 1 ≤ 86400)
unfolding last_broken
last_within true first text is e = window_within first (time_in text) (neither (time_broken text) (window_broken first (time_in text)) e).1
last_within false first text is e = cc is

either : (n : Network) (b : Bool) (x y : Query) → (b ≡ true → IsQuery n x) → IsQuery n y → IsQuery n (if b then x else y)
either n true x y f g = f refl
either n false x y f g = g

-- the query of a row that breaks no rule
pub query_sound : (n : Network) (c : Columns) (row : List (List ℕ)) → All (Stands n) n.stops → HoldAt (query_rules n c) row → IsQuery n (query_of n c row)
unfolding query_rules query_of
query_sound n c row stand h =
    let from = place_vertex n (cell c.from row) stand h.1.0 in
    let to = place_vertex n (cell c.to row) stand h.1.1.0 in
    let limit = (number_in-within 0 16 (cell c.trips row) h.1.1.1.1.1.0).1 in
    either n (is_range (cell c.kind row)) _ _
    (λ range. let window = last_within (is_range (cell c.kind row)) (time_in (cell c.first row)) (cell c.last row) range h.1.1.1.1.0 in
    (from, to, window.0, time_in-le (cell c.last row), window.1, limit))
    (from, to, time_in-le (cell c.first row), limit)

pub all_sound : (n : Network) (bytes : List ℕ) → All (Stands n) n.stops → IsQueryTable n bytes → All (IsQuery n) (queries_of n bytes)
unfolding IsQueryTable queries_of
all_sound n bytes stand table = λ k d lt.
    let within : k < length (rows_of bytes) = omega (arith, lt, length-map (rows_of bytes) (query_of n (columns_in bytes))) in
    let is : get_or (map (query_of n (columns_in bytes)) (rows_of bytes)) k d ≡ query_of n (columns_in bytes) (row_at (rows_of bytes) k) =
    get_or-map (query_of n (columns_in bytes)) (rows_of bytes) k [] d within in
    subst (IsQuery n) (sym is) (query_sound n (columns_in bytes) (row_at (rows_of bytes) k) stand (table.1 k within))
