-- What is found for the first spans of a range.
--     IsFinding c s d rides t pair finding    the finding has the pair, and a journey with the rides by least sums
--     IsFoot c sums s first t foot            the finding of the walk on foot that leaves at second `first`, where there is a walk
--     IsSpanFound c s t span found            the span with its rides, and a journey with them by least sums from its last second
--     AddsSpan c s t span old new             such a finding is put last, or there is none
--     AreFound c s t spans found              the spans that are not left out, in their order, each so found
--     IsRangeFound c sums s first t spans found   the walk on foot and the spans of a range are so found
use Rattle.std.specs.Prelude.{◌≡◌, ℕ, ◌-◌, List, [], ◌∷◌, ◌++◌, Option, IfSome}
use Rattle.std.specs.Option.{option_map}
use Rattle.move_model.specs.declared.network.NodeNo.{NodeNo}
use Rattle.move_model.specs.declared.journey.Ride.{Ride}
use Rattle.move_model.specs.declared.journey.Pair.{Pair}
use Rattle.move_model.specs.declared.journey.Finding.{Finding}
use Rattle.move_model.specs.declared.journey.Span.{Span}
use Rattle.move_model.specs.declared.journey.SpanFinding.{SpanFinding}
use Rattle.move_model.specs.Found.{span_of}
use Rattle.journey_build.specs.Built.{IsBuilt, IsBroken}
use Rattle.network_file.specs.declared.compiled.Compiled.{Compiled}
use Rattle.network_file.specs.Answers.{Sums, IsMade}
use Rattle.range_answers.specs.declared.found.RangeFindings.{RangeFindings}

pub record IsFinding (c : Compiled) (s : NodeNo) (d : ℕ) (rides : List Ride) (t : NodeNo) (pair : Pair) (finding : Finding) : Type 0 where
  pub pair_is : finding.pair ≡ pair
  pub built : IsBuilt c.network c.hierarchy s d rides t finding.journey

pub record IsFoot (c : Compiled) (sums : Sums) (s : NodeNo) (first : ℕ) (t : NodeNo) (foot : Option Finding) : Type 0 where
  pub on_foot : option_map (λ finding. finding.pair.arrive - first) foot ≡ sums.foot
  pub no_trip : IfSome foot (λ finding. finding.pair.trips ≡ 0)
  pub made : IfSome foot (IsMade c sums s first t)

pub record IsSpanFound (c : Compiled) (s t : NodeNo) (span : Span) (found : SpanFinding) : Type 0 where
  pub span_is : span_of found ≡ span
  pub built : IsBuilt c.network c.hierarchy s found.last found.finding.journey.rides t found.finding.journey

abbrev pub IsSpanBroken : Compiled → NodeNo → NodeNo → Span → Type 0
IsSpanBroken c s t span = IsBroken c.network c.hierarchy s span.last span.rides t

pub data AddsSpan (c : Compiled) (s t : NodeNo) (span : Span) (old new : List SpanFinding) : Type 0 where
  one : {found : SpanFinding} → IsSpanFound c s t span found → new ≡ old ++ found ∷ [] → AddsSpan c s t span old new
  left_out : IsSpanBroken c s t span → new ≡ old → AddsSpan c s t span old new

pub data AreFound (c : Compiled) (s t : NodeNo) : List Span → List SpanFinding → Type 0 where
  none : AreFound c s t [] []
  one_more : {span : Span} {found : SpanFinding} {spans : List Span} {all : List SpanFinding}
      → IsSpanFound c s t span found → AreFound c s t spans all → AreFound c s t (span ∷ spans) (found ∷ all)
  one_out : {span : Span} {spans : List Span} {all : List SpanFinding}
      → IsSpanBroken c s t span → AreFound c s t spans all → AreFound c s t (span ∷ spans) all

pub record IsRangeFound (c : Compiled) (sums : Sums) (s : NodeNo) (first : ℕ) (t : NodeNo) (spans : List Span) (found : RangeFindings) : Type 0 where
  pub foot : IsFoot c sums s first t found.foot
  pub by_rides : AreFound c s t spans found.spans
