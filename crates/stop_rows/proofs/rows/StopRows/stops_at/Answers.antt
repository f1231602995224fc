use Rattle.std.proofs.Common.{◌≡◌, ◌<◌, ℕ, List, [], Vec, Global, length, map, slice_index_or, sym, ap, ◌∙◌, subst, arith}
use Rattle.std.proofs.lemmas.List.{get_or-map, length-map}
use Rattle.move_model.specs.declared.network.StopNo.{StopNo}
use Rattle.stop_rows.specs.Rows.{Rows}
use Rattle.stop_rows.specs.Places.{AreStopsAt}
use Rattle.stop_rows.proofs.rows.StopRows.stops_at.Goals as goal

pub returns-clause-exact : goal.returns-clause-exact
returns-clause-exact c =
    let f = λ (row : Vec StopNo Global). row.items in
    let stops = c.self.inside.stops.items in
    let many : length c.self.inside.nodes.items ≡ length c.args.self.now.nodes = ap (λ (rows : Rows). length rows.nodes) c.self.view_is in
    let low : c.args.place < length c.self.inside.nodes.items = omega (arith, c.requires, many) in
    let inside : c.args.place < length c.self.inside.stops.items = omega (arith, low, c.self.invariant.lists, length-map stops f) in
    let same : slice_index_or (map f c.self.inside.stops.items) c.args.place [] ≡ c.as_slice.result.now =
    get_or-map f stops c.args.place c.index.result.now [] inside ∙ ap f (sym c.index.ensures) ∙ sym c.as_slice.ensures.value in
    let at : AreStopsAt c.args.self.now.places c.args.place c.as_slice.result.now =
    subst (λ (ps : List ℕ). AreStopsAt ps c.args.place c.as_slice.result.now) (ap (λ (rows : Rows). rows.places) c.self.view_is)
    (subst (λ (row : List StopNo). AreStopsAt c.self.inside.places.items c.args.place row) same (c.self.invariant.stops_at c.args.place low)) in
    at.exact

pub returns-clause-rising : goal.returns-clause-rising
returns-clause-rising c =
    let f = λ (row : Vec StopNo Global). row.items in
    let stops = c.self.inside.stops.items in
    let many : length c.self.inside.nodes.items ≡ length c.args.self.now.nodes = ap (λ (rows : Rows). length rows.nodes) c.self.view_is in
    let low : c.args.place < length c.self.inside.nodes.items = omega (arith, c.requires, many) in
    let inside : c.args.place < length c.self.inside.stops.items = omega (arith, low, c.self.invariant.lists, length-map stops f) in
    let same : slice_index_or (map f c.self.inside.stops.items) c.args.place [] ≡ c.as_slice.result.now =
    get_or-map f stops c.args.place c.index.result.now [] inside ∙ ap f (sym c.index.ensures) ∙ sym c.as_slice.ensures.value in
    let at : AreStopsAt c.self.inside.places.items c.args.place c.as_slice.result.now =
    subst (λ (row : List StopNo). AreStopsAt c.self.inside.places.items c.args.place row) same (c.self.invariant.stops_at c.args.place low) in
    at.rising
