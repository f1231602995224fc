-- The range of a network is the listed one of a right value.
use Rattle.std.proofs.Common.{◌≡◌, ℕ, sym, ap, subst, Option, Some, None}
use Rattle.move_model.specs.declared.network.NodeNo.{NodeNo}
use Rattle.move_model.specs.declared.journey.Profile.{Profile}
use Rattle.move_model.specs.Streets.{Streets, IsVertex, HasDistance}
use Rattle.move_model.specs.Network.{streets}
use Rattle.move_model.specs.Range.{IsOffered, IsRange, IsListedRange}
use Rattle.pareto_laws.proofs.Distances.{distance_same}
use Rattle.compiled_laws.proofs.Rows.{foot_is, suffice}
use Rattle.compiled_laws.proofs.Best.{best_listed, listed_best}
use Rattle.network_file.specs.declared.compiled.Compiled.{Compiled}
use Rattle.network_file.specs.Compiled.{IsRight}
use Rattle.network_file.specs.Answers.{Sums, AreLeastSums}

-- two vertices have one distance, or none
same_distance : (g : Streets) (a b : NodeNo) (o p : Option ℕ) → HasDistance g a b o → HasDistance g a b p → o ≡ p
same_distance g a b None None one other = λ i. None
same_distance g a b None (Some m) none is = absurd (none is.attained.0 m is.attained.1)
same_distance g a b (Some l) None is none = absurd (none is.attained.0 l is.attained.1)
same_distance g a b (Some l) (Some m) one other = ap (λ k. Some k) (distance_same one other)

pub range_listed : (c : Compiled) → IsRight c → (s t : NodeNo) → IsVertex (streets c.network) s → IsVertex (streets c.network) t
    → (sums : Sums) → AreLeastSums c s t sums → (limit first last : ℕ) (profile : Profile) → IsRange c.network s t limit first last profile
    → IsListedRange c.network sums.first sums.last c.shortcuts sums.foot limit first last profile
range_listed c right s t at_s at_t sums least limit first last profile is =
    let enough = suffice c right s t at_s at_t sums least in
    let far = foot_is c right s t at_s at_t sums least in
    let same : profile.foot ≡ sums.foot = same_distance (streets c.network) s t profile.foot sums.foot is.foot far in
    record {
      foot_is = same;
      spans = record {
        within = is.spans.within;
        exact = λ d after before pair. (
          λ has. best_listed c.network c.shortcuts s t sums.first sums.last sums.foot limit enough far d pair
              ((is.spans.exact d after before pair).0 (subst (λ o. IsOffered o profile.spans d pair) (sym same) has)),
          λ best. subst (λ o. IsOffered o profile.spans d pair) same
              ((is.spans.exact d after before pair).1 (listed_best c.network c.shortcuts s t sums.first sums.last sums.foot limit enough far d pair best)),
        );
        one_each = is.spans.one_each;
        in_order = is.spans.in_order;
      };
    }
