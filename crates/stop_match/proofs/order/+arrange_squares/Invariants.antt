-- Each part has fewer places.
use Rattle.std.proofs.Common.{length}
use Rattle.stop_match.proofs.order.+arrange_squares.Given as goal

abbrev pub decreases-arrange_squares : goal.decreases-arrange_squares
decreases-arrange_squares l = length l.places.now
