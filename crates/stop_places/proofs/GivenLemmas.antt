-- The vertices that rows give, by one row more, and by an id.
use Rattle.std.proofs.Common.{◌≡◌, ◌∙◌, ◌+◌, ◌<◌, ◌≤◌, ℕ, List, [], ◌∷◌, ◌++◌, length, take, get_or, map, Bool, true, false, Option, Some, None, refl, ap, arith}
use Rattle.std.specs.Prelude.{find, position, nat_lt, slice_get, option_map, if◌then◌else◌}
use Rattle.std.specs.List.{position_or_len}
use Rattle.std.specs.Str.{bytes_eq}
use Rattle.std.proofs.lemmas.Bool.Decides.{nat_tests}
use Rattle.std.proofs.lemmas.List.{take_all, take_more, map_push}
use Rattle.std.proofs.lemmas.List.Folds.{find_at}
use Rattle.std.proofs.lemmas.Option.{slice_get-map, slice_get_past}
use Rattle.move_model.specs.declared.network.NodeNo.{NodeNo}
use Rattle.tables.specs.Table.{cell, row_at}
use Rattle.tables.specs.Values.{number_in}
use Rattle.tables.proofs.Positions.{position-map}
use Rattle.stop_places.specs.declared.columns.Columns.{Columns}
use Rattle.stop_places.specs.declared.given.Given.{Given}
use Rattle.stop_places.specs.Rules.{ids_in, row_behind, given_vertex}
use Rattle.stop_places.specs.Given.{vertex_at, vertex_in, nodes_in, IsGivenBy}

abbrev numbered : ℕ → NodeNo
numbered n = record { 0 = n }

twice : {X : Type 0} (g : X → ℕ) (o : Option X) → option_map numbered (option_map g o) ≡ option_map (λ x. numbered (g x)) o
twice g None = refl
twice g (Some x) = refl

at-of : {X : Type 0} (g : X → ℕ) (xs : List X) (k : ℕ) (b : Bool) → nat_lt k (length xs) ≡ b
    → vertex_at (map g xs) (if b then Some k else None) ≡ option_map (λ x. numbered (g x)) (slice_get xs k)
at-of g xs k true e = ap (option_map numbered) (slice_get-map g xs k) ∙ twice g (slice_get xs k)
at-of g xs k false e =
    let past : length xs ≤ k = grind (arith, nat_tests) in
    rw (slice_get_past xs k past) refl

vertex_at-map : {X : Type 0} (p : X → Bool) (g : X → ℕ) (xs : List X) → vertex_at (map g xs) (position p xs) ≡ option_map (λ x. numbered (g x)) (find p xs)
vertex_at-map p g xs = rw (find_at p xs) (at-of g xs (position_or_len p xs) (nat_lt (position_or_len p xs) (length xs)) refl)

-- the vertex of an id is that of the first row with it
pub vertex_in-is : (c : Columns) (rows : List (List (List ℕ))) (given : Given) (id : List ℕ) → IsGivenBy c rows given → vertex_in given id ≡ given_vertex c rows id
vertex_in-is c rows given id g =
    rw (g.names, g.nodes, position-map (bytes_eq id) (λ (row : List (List ℕ)). cell c.stop_id row) rows)
    (vertex_at-map (λ (row : List (List ℕ)). bytes_eq id (cell c.stop_id row)) (λ (row : List (List ℕ)). number_in (cell c.node row)) rows)

-- the row at a place, with what the rows before it gave
pub behind_is : (c : Columns) (rows : List (List (List ℕ))) (k : ℕ) (given : Given) (fields : List (List ℕ)) → IsGivenBy c (take k rows) given → row_at rows k ≡ fields
    → row_behind c rows k ≡ record { earlier = given.names; row = fields }
behind_is c rows k given fields g here = rw (g.names, here) refl

pub given_more : (c : Columns) (rows : List (List (List ℕ))) (k : ℕ) (old new : Given) (fields : List (List ℕ)) (id : List ℕ) (node : ℕ) → IsGivenBy c (take k rows) old
    → k < length rows → row_at rows k ≡ fields → id ≡ cell c.stop_id fields → node ≡ number_in (cell c.node fields)
    → new.names ≡ old.names ++ id ∷ [] → new.nodes ≡ old.nodes ++ node ∷ []
    → IsGivenBy c (take (k + 1) rows) new
given_more c rows k old new fields id node g lt here named numbered names nodes =
    record {
      names = rw (take_more rows k [] lt, map_push (λ (row : List (List ℕ)). cell c.stop_id row) (take k rows) (get_or rows k []), here)
          (names ∙ ap (λ (ids : List (List ℕ)). ids ++ id ∷ []) g.names ∙ ap (λ (i : List ℕ). ids_in c (take k rows) ++ i ∷ []) named);
      nodes = rw (take_more rows k [] lt, map_push (λ (row : List (List ℕ)). number_in (cell c.node row)) (take k rows) (get_or rows k []), here)
          (nodes ∙ ap (λ (ns : List ℕ). ns ++ node ∷ []) g.nodes ∙ ap (λ (n : ℕ). nodes_in c (take k rows) ++ n ∷ []) numbered);
    }

pub given_all : (c : Columns) (rows : List (List (List ℕ))) (k : ℕ) (given : Given) → length rows ≤ k → IsGivenBy c (take k rows) given → IsGivenBy c rows given
given_all c rows k given all g = rw (take_all k rows all) at g
