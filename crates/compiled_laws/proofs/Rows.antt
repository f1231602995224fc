-- The rows and the seconds on foot of a right value are distances, so listed journeys stand for all.
use Rattle.std.proofs.Common.{◌∙◌, get_or, arith, None}
use Rattle.move_model.specs.declared.network.NodeNo.{NodeNo}
use Rattle.move_model.specs.Streets.{IsVertex, HasDistance}
use Rattle.move_model.specs.Network.{IsNetwork, streets}
use Rattle.move_model.specs.Listed.{HoldsFirst, HoldsLast, ListedSuffice}
use Rattle.pareto_laws.proofs.ListedJourneys.{listed_suffice}
use Rattle.pareto_laws.proofs.ShortcutsSuffice.{shortcuts_suffice, shortcuts_hold_distances}
use Rattle.network_file.specs.declared.compiled.Compiled.{Compiled}
use Rattle.network_file.specs.Compiled.{IsRight}
use Rattle.network_file.specs.Answers.{Sums, AreLeastSums}

module _ (c : Compiled) (right : IsRight c) (s t : NodeNo) (at_s : IsVertex (streets c.network) s) (at_t : IsVertex (streets c.network) t)
    (sums : Sums) (least : AreLeastSums c s t sums) where
  pub is_network : IsNetwork c.network
  is_network = right.fits.rules.network

  pub foot_is : HasDistance (streets c.network) s t sums.foot
  foot_is = (right.walks.distances s t sums.foot at_s at_t).0 least.foot

  pub first_holds : HoldsFirst c.network s sums.first
  first_holds = record {
    one_each = least.first.one_each ∙ right.fits.same_stops;
    distances = λ x within.
        right.first s x (get_or sums.first x.0 None) at_s within (least.first.least x.0 (omega (arith, within, right.fits.same_stops)));
  }

  pub last_holds : HoldsLast c.network t sums.last
  last_holds = record {
    one_each = least.last.one_each ∙ right.fits.same_stops;
    distances = λ x within.
        right.last x t (get_or sums.last x.0 None) at_t within (least.last.least x.0 (omega (arith, within, right.fits.same_stops)));
  }

  pub suffice : ListedSuffice c.network s t sums.first sums.last c.shortcuts
  suffice =
      listed_suffice c.network is_network c.shortcuts (shortcuts_hold_distances c.network c.shortcuts right.shortcuts) s t sums.first sums.last first_holds last_holds
      (shortcuts_suffice c.network c.shortcuts is_network right.shortcuts)
