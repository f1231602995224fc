-- The listed pairs of a right value are the Pareto set.
use Rattle.std.proofs.Common.{ℕ, List}
use Rattle.move_model.specs.declared.network.NodeNo.{NodeNo}
use Rattle.move_model.specs.declared.journey.Pair.{Pair}
use Rattle.move_model.specs.Streets.{IsVertex}
use Rattle.move_model.specs.Network.{streets}
use Rattle.move_model.specs.Journey.{IsParetoList}
use Rattle.compiled_laws.proofs.Rows.{foot_is, suffice}
use Rattle.compiled_laws.proofs.Best.{best_listed, listed_best}
use Rattle.network_file.specs.declared.compiled.Compiled.{Compiled}
use Rattle.network_file.specs.Compiled.{IsRight}
use Rattle.network_answers.specs.Point.{AreListedPairs}

pub pairs_exact : (c : Compiled) (s : NodeNo) (d : ℕ) (t : NodeNo) (limit : ℕ) (pairs : List Pair) → IsRight c
    → IsVertex (streets c.network) s → IsVertex (streets c.network) t
    → AreListedPairs c s d t limit pairs → IsParetoList c.network s d t limit pairs
pairs_exact c s d t limit pairs right at_s at_t are =
    let enough = suffice c right s t at_s at_t are.sums are.least in
    let foot = foot_is c right s t at_s at_t are.sums are.least in
    record {
      exact = λ pair. (
        λ has. listed_best c.network c.shortcuts s t are.sums.first are.sums.last are.sums.foot limit enough foot d pair ((are.exact pair).0 has),
        λ best. (are.exact pair).1 (best_listed c.network c.shortcuts s t are.sums.first are.sums.last are.sums.foot limit enough foot d pair best),
      );
      rising = are.rising;
    }
