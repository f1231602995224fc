use Rattle.std.proofs.lemmas.List.Sorted.{IsPermutation-trans, IsPermutation-append}
use Rattle.stop_match.proofs.order.+arrange_squares.Goals as goal

pub returns : goal.returns
returns t c =
    let parts = c.split_at_mut-front.result in
    IsPermutation-trans c.args.places.now c.sort_along.new.places _ c.sort_along.ensures
    (rw c.split_at_mut-front.ensures.value
    (IsPermutation-append parts.0.now c.arrange_squares.new.places parts.1.now c.arrange_squares-2.new.places c.arrange_squares.ensures c.arrange_squares-2.ensures))
