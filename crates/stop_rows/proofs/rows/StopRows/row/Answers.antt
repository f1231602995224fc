use Rattle.std.proofs.Common.{◌≡◌, ◌<◌, ℕ, [], Vec, Global, length, map, slice_index_or, sym, ap, ◌∙◌, arith}
use Rattle.std.proofs.lemmas.List.{get_or-map, length-map}
use Rattle.stop_rows.specs.Rows.{Rows}
use Rattle.stop_rows.proofs.rows.StopRows.row.Goals as goal

pub returns-clause-one_each : goal.returns-clause-one_each
returns-clause-one_each c =
    let f = λ (row : Vec ℕ Global). row.items in
    let seconds = c.self.inside.seconds.items in
    let many : length c.self.inside.nodes.items ≡ length c.args.self.now.nodes = ap (λ (rows : Rows). length rows.nodes) c.self.view_is in
    let low : c.args.place < length c.self.inside.nodes.items = omega (arith, c.requires, many) in
    let inside : c.args.place < length c.self.inside.seconds.items = omega (arith, low, c.self.invariant.many, length-map seconds f) in
    let same : slice_index_or (map f c.self.inside.seconds.items) c.args.place [] ≡ c.as_slice.result.now =
    get_or-map f seconds c.args.place c.index.result.now [] inside ∙ ap f (sym c.index.ensures) ∙ sym c.as_slice.ensures.value in
    ap length (sym same) ∙ c.self.invariant.wide c.args.place low ∙ many
