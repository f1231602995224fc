-- The queries so far and the query of one more row.
use Rattle.std.proofs.Common.{◌≡◌, ◌∙◌, ◌+◌, ◌<◌, ℕ, List, [], ◌∷◌, ◌++◌, length, take, get_or, map, Bool, true, false, Option, Some, None, refl, sym, ap}
use Rattle.std.specs.Prelude.{if◌then◌else◌, Result, Ok, Err, OnOk}
use Rattle.std.specs.Result.{is_err}
use Rattle.std.proofs.lemmas.List.{take_more, map_push}
use Rattle.move_model.specs.declared.network.Network.{Network}
use Rattle.move_model.specs.declared.query.Query.{Query}
use Rattle.move_model.specs.declared.query.Query.TheVariants as query
use Rattle.tables.specs.Values.{number_in, time_in}
use Rattle.tables.specs.Table.{cell, row_at}
use Rattle.query_table.specs.declared.columns.Columns.{Columns}
use Rattle.query_table.specs.declared.row.Values.{Values}
use Rattle.query_table.specs.Places.{place_in}
use Rattle.query_table.specs.Rules.{query_of, is_range}
use Rattle.query_table.specs.Row.{values_of, query_with}

branch : {X : Type 0} (b : Bool) (f : ℕ → X) (y : X) (m : ℕ) → (if b then f (if b then m else 0) else y) ≡ (if b then f m else y)
branch true f y m = refl
branch false f y m = refl

-- what a call that was no error says
pub on_ok : {T E : Type 0} (r : Result T E) (P : Type 0) → false ≡ is_err r → OnOk r P → P
on_ok (Ok x) P e h = h
on_ok (Err x) P e h = cc e

-- the query of the values of a row is that of the row
pub query_with-values_of : (n : Network) (c : Columns) (row : List (List ℕ)) → query_with (values_of n c row) (cell c.from row) (cell c.to row) ≡ query_of n c row
unfolding query_with query_of
query_with-values_of n c row =
    branch (is_range (cell c.kind row))
    (λ (last : ℕ). query.Range (place_in n (cell c.from row)) (place_in n (cell c.to row)) (time_in (cell c.first row)) last (number_in (cell c.trips row)))
    (query.At (place_in n (cell c.from row)) (place_in n (cell c.to row)) (time_in (cell c.first row)) (number_in (cell c.trips row)))
    (time_in (cell c.last row))

pub queries_more : (n : Network) (c : Columns) (rows : List (List (List ℕ))) (k : ℕ) (fields : List (List ℕ)) (values : Values) (next : Query) (old new : List Query)
    → k < length rows → row_at rows k ≡ fields → values ≡ values_of n c fields → next ≡ query_with values (cell c.from fields) (cell c.to fields)
    → old ≡ map (query_of n c) (take k rows) → new ≡ old ++ next ∷ []
    → new ≡ map (query_of n c) (take (k + 1) rows)
queries_more n c rows k fields values next old new lt here is made so_far grows =
    let query : next ≡ query_of n c fields = made ∙ ap (λ (v : Values). query_with v (cell c.from fields) (cell c.to fields)) is ∙ query_with-values_of n c fields in
    rw (take_more rows k [] lt, map_push (query_of n c) (take k rows) (get_or rows k []), here) (grows ∙ ap (λ (qs : List Query). qs ++ next ∷ []) so_far ∙ ap (λ (q : Query). map (query_of n c) (take k rows) ++ q ∷ []) query)
