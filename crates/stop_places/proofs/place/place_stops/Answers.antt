use Rattle.std.proofs.Common.{◌≡◌, inl, inr, ap}
use Rattle.std.specs.Prelude.{Err}
use Rattle.std.specs.Option.{option_copied}
use Rattle.move_model.specs.declared.refusal.Stopped.TheVariants as stopped
use Rattle.stop_places.specs.Given.{vertex_in}
use Rattle.stop_places.specs.Table.{table_vertex}
use Rattle.stop_places.proofs.PlaceLemmas.{given_stand}
use Rattle.stop_places.proofs.Placed.{on_ok, all_placed, all_vertices, all_as_many, refused_by}
use Rattle.stop_places.proofs.place.place_stops.Goals as goal

pub returns-in-Err-clause-refused : goal.returns-in-Err-clause-refused
returns-in-Err-clause-refused c = λ r e.
    let same : c.in-Err.stopped ≡ stopped.Refused r = cc e in
    inl (c.in-Err.ensures.refused r (ap (λ s. Err s) same))

pub returns-clause-accepted : goal.returns-clause-accepted
returns-clause-accepted c = on_ok c.stops_at.result _ c.in-Ok.ensures.accepted

pub returns-clause-placed : goal.returns-clause-placed
returns-clause-placed c = all_placed (vertex_in c.in-Ok.given) (table_vertex (option_copied c.args.bytes)) c.args.near c.args.stops.now c.stops_at.result c.in-Ok.ensures.given c.stops_at.ensures.placed

pub returns-clause-refused : goal.returns-clause-refused
returns-clause-refused c = λ r e.
    inr (c.in-Ok.ensures.accepted, refused_by (vertex_in c.in-Ok.given) (table_vertex (option_copied c.args.bytes)) c.args.near c.args.stops.now r c.in-Ok.ensures.given (c.stops_at.ensures.refused r e))

pub returns-clause-vertices : goal.returns-clause-vertices
returns-clause-vertices c = all_vertices c.args.nodes (vertex_in c.in-Ok.given) c.args.near c.args.stops.now c.stops_at.result (λ id. given_stand c.args.nodes c.in-Ok.given id c.in-Ok.ensures.vertices) c.requires.points c.stops_at.ensures.placed

pub returns-clause-as_many : goal.returns-clause-as_many
returns-clause-as_many c = all_as_many (vertex_in c.in-Ok.given) c.args.near c.args.stops.now c.stops_at.result c.stops_at.ensures.placed
