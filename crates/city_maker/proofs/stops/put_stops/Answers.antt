use Rattle.std.proofs.Common.{◌≡◌, ◌++◌, ◌∷◌, [], List, sym, ap, ◌∙◌, append_assoc}
use Rattle.std.specs.Prelude.{map}
use Rattle.std.specs.List.{range_with_len}
use Rattle.move_model.specs.declared.network.Stop.{Stop}
use Rattle.city_maker.specs.Lines as spec
use Rattle.city_maker.proofs.Ranges.{map_range_more}
use Rattle.city_maker.proofs.stops.put_stops.Goals as goal

pub loop-i-preserved : goal.loop-i-preserved
loop-i-preserved c =
    let stop = spec.stop_at c.args.side c.args.line in
    let so_far = map stop (range_with_len 0 c.loop-i.i) in
    let put : Stop = record { node = c.stop_node-node.result; name = c.in_ok-name.name } in
    let is : put ≡ stop c.loop-i.i = λ j. record { node = c.stop_node-node.ensures j; name = c.in_ok-name.ensures j } in
    c.in_ok-push.ensures.items
    ∙ ap (λ (xs : List Stop). xs ++ put ∷ []) c.loop-i.invariant
    ∙ append_assoc c.args.stops.now.items so_far (put ∷ [])
    ∙ ap (λ (s : Stop). c.args.stops.now.items ++ (so_far ++ s ∷ [])) is
    ∙ ap (λ (xs : List Stop). c.args.stops.now.items ++ xs) (sym (map_range_more stop c.loop-i.i))
