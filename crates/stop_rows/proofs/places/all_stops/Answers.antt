use Rattle.std.proofs.Common.{◌<◌, List, [], sym, subst, arith, ◌∙◌, inl, inr}
use Rattle.std.proofs.lemmas.Bool.{cases_eq}
use Rattle.std.proofs.lemmas.List.{length_push}
use Rattle.move_model.specs.declared.network.StopNo.{StopNo}
use Rattle.stop_rows.specs.Places.{AreStopsAt}
use Rattle.stop_rows.proofs.ListLemmas.{map_push_old, map_push_last}
use Rattle.stop_rows.proofs.places.all_stops.Goals as goal

pub loop-place-preserved : goal.loop-place-preserved
loop-place-preserved c =
    let long = length_push c.loop-place.rows.items c.in_ok-row.row in
    rw c.in_ok-push.ensures.items
    (record {
      many = omega (arith, long, c.loop-place.invariant.many);
      each = λ p lt. elim (cases_eq p c.loop-place.place) [
        | inl e ↦
            subst (λ (row : List StopNo). AreStopsAt c.args.places.now p row) (sym (map_push_last (λ row. row.items) c.loop-place.rows.items c.in_ok-row.row [] p (e ∙ sym c.loop-place.invariant.many)))
            (subst (λ q. AreStopsAt c.args.places.now q c.in_ok-row.row.items) (sym e) c.in_ok-row.ensures)
        | inr ne ↦
            let low : p < c.loop-place.place = omega (arith, lt, ne) in
            subst (λ (row : List StopNo). AreStopsAt c.args.places.now p row) (sym (map_push_old (λ row. row.items) c.loop-place.rows.items c.in_ok-row.row [] p (omega (arith, low, c.loop-place.invariant.many))))
            (c.loop-place.invariant.each p low)
      ];
    })
