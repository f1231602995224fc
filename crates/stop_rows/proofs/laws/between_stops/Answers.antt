use Rattle.std.proofs.Common.{◌≡◌, Some, slice_get, sym, ap, ◌∙◌}
use Rattle.std.proofs.lemmas.Option.{slice_get_within, get_or_from_slice_get}
use Rattle.move_model.specs.declared.network.NodeNo.{NodeNo}
use Rattle.move_model.specs.Network.{node_of}
use Rattle.stop_rows.specs.Rows.{place_at}
use Rattle.stop_rows.proofs.ListLemmas.{rising_place}
use Rattle.stop_rows.proofs.laws.between_stops.Goals as goal

pub returns-clause-together : goal.returns-clause-together
returns-clause-together c = λ n rows x y holds x_low y_low.
    let at_x = holds.places.stands x x_low in
    let at_y = holds.places.stands y y_low in (
      λ e.
          let same : Some (node_of n x) ≡ Some (node_of n y) = sym at_x ∙ ap (λ p. slice_get rows.nodes p) e ∙ at_y in
          cc,
      λ e.
          let d : NodeNo = record { 0 = 0 } in
          rising_place (λ (v : NodeNo). v.0) rows.nodes d holds.places.rising (place_at rows x) (place_at rows y) (slice_get_within rows.nodes (place_at rows x) (node_of n x) at_x)
          (slice_get_within rows.nodes (place_at rows y) (node_of n y) at_y)
          (ap (λ (v : NodeNo). v.0) (get_or_from_slice_get rows.nodes (place_at rows x) (node_of n x) d at_x ∙ e ∙ sym (get_or_from_slice_get rows.nodes (place_at rows y) (node_of n y) d at_y))),
    )
