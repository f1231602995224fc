-- What holds of any value whose parts fit together.
use Rattle.std.proofs.Common.{◌≡◌, ◌∙◌, ℕ, List, sym, subst, arith}
use Rattle.std.proofs.lemmas.List.Elements.{All-weaker}
use Rattle.move_model.specs.declared.network.Network.{Network}
use Rattle.move_model.specs.declared.network.NodeNo.{NodeNo}
use Rattle.move_model.specs.declared.journey.Ride.{Ride}
use Rattle.move_model.specs.declared.journey.Journey.{Journey}
use Rattle.move_model.specs.Streets.{IsWalk}
use Rattle.move_model.specs.Network.{streets}
use Rattle.move_model.specs.Journey.{Travels}
use Rattle.pareto_laws.proofs.Walks.{walk_first, walk_last, walk_same}
use Rattle.route_split.proofs.OrderLemmas.{ride_forward}
use Rattle.walk_laws.specs.Sums.{IsLeast}
use Rattle.walk_hierarchy.specs.Hierarchy.{Parts, IsUpDownSum}
use Rattle.route_split.specs.Calls.{IsTableOf}
use Rattle.journey_build.specs.Built.{IsBroken}
use Rattle.journey_build.proofs.BrokenLaws.{IsSuited, unbroken}
use Rattle.network_file.specs.declared.compiled.Compiled.{Compiled}
use Rattle.network_file.specs.Compiled.{FitTogether}
use Rattle.network_file.specs.Answers.{HasLeastSum, GoesBySums}

pub table_fits : (c : Compiled) → FitTogether c → IsTableOf c.network c.table
table_fits c fits = record {
  stops_are = fits.table.stops;
  buffer_is = fits.table.buffer;
  holds = fits.table.rows;
  forward = λ ride on off is. ride_forward c.network fits.rules.network ride on off is;
}

sum_suits : (n : Network) (h : Parts) (walk : List NodeNo) → HasLeastSum (streets n) h walk → IsSuited n h walk
sum_suits n h walk way p q m is =
    let none : NodeNo = record { 0 = 0 } in
    let from : way.from ≡ p = sym (walk_first none way.walks).1 ∙ (walk_first none is).1 in
    let to : way.to ≡ q = sym (walk_last none way.walks).0 ∙ (walk_last none is).0 in
    let at_p : IsWalk (streets n) p walk way.to way.seconds = subst (λ (v : NodeNo). IsWalk (streets n) v walk way.to way.seconds) from way.walks in
    let seconds : way.seconds ≡ m = walk_same at_p is in
    let least : IsLeast (IsUpDownSum h p q) way.seconds =
    subst (λ (v : NodeNo). IsLeast (IsUpDownSum h p v) way.seconds) to (subst (λ (v : NodeNo). IsLeast (IsUpDownSum h v way.to) way.seconds) from way.least) in
    record {
      leads_on = λ nothing. nothing way.seconds least.attained;
      no_less = λ k other. omega (arith, other.least way.seconds least.attained, seconds);
    }

pub no_journey : (c : Compiled) (s : NodeNo) (d : ℕ) (rides : List Ride) (t : NodeNo) → IsBroken c.network c.hierarchy s d rides t
    → (journey : Journey) → GoesBySums c s d rides t journey → ⊥
no_journey c s d rides t broken journey goes =
    let there : Travels c.network s d journey.walks rides t goes.arrive =
    subst (λ rs. Travels c.network s d journey.walks rs t goes.arrive) goes.same_rides
    (subst (λ (e : ℕ). Travels c.network s e journey.walks journey.rides t goes.arrive) goes.departs goes.leads) in
    unbroken c.hierarchy there
    (All-weaker (HasLeastSum (streets c.network) c.hierarchy) (IsSuited c.network c.hierarchy) (sum_suits c.network c.hierarchy) journey.walks goes.walks) broken
