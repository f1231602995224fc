-- What the answers to point and range queries hold.
--     IsLeastWalk g walk             the walk has the seconds of the distance between its ends, and comes to no vertex twice
--     IsFound n s d t finding        the finding's journey leaves s at second d, goes by least walks, and has the finding's pair at t
--     IsPointAnswer n s d t k found  the pairs of the findings are the Pareto set, by rising number of rides, and each is so found
--     span_of found                  the span that a finding stands for
--     IsRangeAnswer n s t k first last foot spans    the answer to the range, with the walk on foot that leaves at its first
--                                    second, and for each span a journey that leaves at the span's last
use Rattle.std.specs.Prelude.{◌≡◌, ◌≢◌, ℕ, ◌-◌, List, map, length, All, AllPairs, Option, IfSome}
use Rattle.std.specs.Option.{option_map}
use Rattle.move_model.specs.declared.network.Network.{Network}
use Rattle.move_model.specs.declared.network.NodeNo.{NodeNo}
use Rattle.move_model.specs.declared.journey.Finding.{Finding}
use Rattle.move_model.specs.declared.journey.Span.{Span}
use Rattle.move_model.specs.declared.journey.SpanFinding.{SpanFinding}
use Rattle.move_model.specs.Streets.{Streets, IsWalk, IsDistance}
use Rattle.move_model.specs.Network.{streets}
use Rattle.move_model.specs.Journey.{IsJourney, IsParetoList}
use Rattle.move_model.specs.Range.{IsRange}

-- so a walk that stays at its vertex is that vertex alone
pub record IsLeastWalk (g : Streets) (walk : List NodeNo) : Type 0 where
  pub from : NodeNo
  pub to : NodeNo
  pub seconds : ℕ
  pub walks : IsWalk g from walk to seconds
  pub least : IsDistance g from to seconds
  pub no_vertex_twice : AllPairs (λ a b. a ≢ b) walk

pub record IsFound (n : Network) (s : NodeNo) (d : ℕ) (t : NodeNo) (finding : Finding) : Type 0 where
  pub departs : finding.journey.depart ≡ d
  pub arrives : IsJourney n s finding.journey t finding.pair.arrive
  pub rides : length finding.journey.rides ≡ finding.pair.trips
  pub least_walks : All (IsLeastWalk (streets n)) finding.journey.walks

pub record IsPointAnswer (n : Network) (s : NodeNo) (d : ℕ) (t : NodeNo) (limit : ℕ) (found : List Finding) : Type 0 where
  pub pareto : IsParetoList n s d t limit (map (λ finding. finding.pair) found)
  pub real : All (IsFound n s d t) found

abbrev pub span_of : SpanFinding → Span
span_of found = record { first = found.first; last = found.last; trips = found.finding.pair.trips; arrive = found.finding.pair.arrive; rides = found.finding.journey.rides }

pub record IsRangeAnswer (n : Network) (s t : NodeNo) (limit first last : ℕ) (foot : Option Finding) (spans : List SpanFinding) : Type 0 where
  pub range : IsRange n s t limit first last (record { foot = option_map (λ finding. finding.pair.arrive - first) foot; spans = map span_of spans })
  pub on_foot : IfSome foot (λ finding. finding.pair.trips ≡ 0)
  pub foot_real : IfSome foot (IsFound n s first t)
  pub real : All (λ found. IsFound n s found.last t found.finding) spans
