-- The answer to a point query, and its searches.
use Rattle.std.proofs.Common.{◌≡◌, ℕ, ◌+◌, List, arith}
use Rattle.move_model.specs.declared.network.NodeNo.{NodeNo}
use Rattle.move_model.specs.declared.journey.Finding.{Finding}
use Rattle.network_file.specs.declared.compiled.Compiled.{Compiled}
use Rattle.network_file.specs.Answers.{Sums, AreLeastSums, IsListedPoint}
use Rattle.network_answers.specs.Point.{IsSearched}
use Rattle.network_answers.specs.Found.{IsFoundFor, IsTicked}

module _ (c : Compiled) (s : NodeNo) (d : ℕ) (t : NodeNo) (limit : ℕ) (sums : Sums) (least : AreLeastSums c s t sums) where
  pub listed_point : (found : List Finding) → IsFoundFor c sums s d t limit found → IsListedPoint c s d t limit found
  listed_point found is =
      record { sums = sums; least = least; best = is.best; made = is.made; whole = is.whole; rising = is.rising }

  pub point_searched : (before between after : ℕ) → between ≡ before + 3 → IsTicked c sums d limit between after → IsSearched c s d t limit before after
  point_searched before between after three is =
      record {
        pairs = is.pairs;
        are = record { sums = sums; least = least; exact = is.are.exact; rising = is.are.rising };
        few = omega (arith, three, is.few);
      }
