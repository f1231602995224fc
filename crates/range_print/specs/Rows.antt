-- The rows of the answer to a range query. Each time is a second of the service day as text.
--     foot_record q a f          query q's row of kind foot: the seconds of the walk f, and the window
--     span_record q j a s        its row of kind span for its journey j: the span's number of trips, seconds and arrival
--     range_none_record q a      its row of kind none: the window alone
--     foot_records q n a f       the row of the walk on foot, and the arcs of the walk below it, from the window's first second
--     span_records q j n a s     the row of a span, and the legs below it of its journey, which leaves at the span's last second
--     spans_from q j n a ss      the rows of spans, whose journeys are numbered from j on
--     range_records q n a        the rows of the walk on foot and of the spans, or the one row of kind none
--     ArePrintable n a           the journeys of the answer are some of the network, of seconds that 64 bits hold
use Rattle.std.specs.Prelude.{◌+◌, ◌-◌, ℕ, List, [], ◌∷◌, ◌++◌, All, Option, Some, None, IfSome, codes, decimal}
use Rattle.move_model.specs.declared.network.Network.{Network}
use Rattle.move_model.specs.declared.journey.Finding.{Finding}
use Rattle.move_model.specs.declared.journey.SpanFinding.{SpanFinding}
use Rattle.move_model.specs.Time.{time_text}
use Rattle.journey_print.specs.Legs.{leg_records, IsPrintable}
use Rattle.range_print.specs.declared.answer.RangeAnswer.{RangeAnswer}

-- a walk on foot arrives its seconds behind the first second of the window
unfoldable pub foot_record : ℕ → RangeAnswer → Finding → List (List ℕ)
foot_record query answer foot = decimal query ∷ codes "1" ∷ codes "foot" ∷ decimal (foot.pair.arrive - answer.first)
    ∷ answer.from.word ∷ decimal answer.from.node.0 ∷ answer.to.word ∷ decimal answer.to.node.0
    ∷ time_text answer.first ∷ time_text answer.last ∷ [] ∷ []

unfoldable pub span_record : ℕ → ℕ → RangeAnswer → SpanFinding → List (List ℕ)
span_record query journey answer found = decimal query ∷ decimal journey ∷ codes "span" ∷ decimal found.finding.pair.trips
    ∷ answer.from.word ∷ decimal answer.from.node.0 ∷ answer.to.word ∷ decimal answer.to.node.0
    ∷ time_text found.first ∷ time_text found.last ∷ time_text found.finding.pair.arrive ∷ []

unfoldable pub range_none_record : ℕ → RangeAnswer → List (List ℕ)
range_none_record query answer = decimal query ∷ codes "0" ∷ codes "none" ∷ []
    ∷ answer.from.word ∷ decimal answer.from.node.0 ∷ answer.to.word ∷ decimal answer.to.node.0
    ∷ time_text answer.first ∷ time_text answer.last ∷ [] ∷ []

-- the walk has number 1
abbrev pub foot_records : ℕ → Network → RangeAnswer → Finding → List (List (List ℕ))
foot_records query n answer foot =
    foot_record query answer foot ∷ leg_records query 1 n foot.journey.walks foot.journey.rides foot.journey.depart

abbrev pub span_records : ℕ → ℕ → Network → RangeAnswer → SpanFinding → List (List (List ℕ))
span_records query journey n answer found =
    span_record query journey answer found
    ∷ leg_records query journey n found.finding.journey.walks found.finding.journey.rides found.finding.journey.depart

abbrev pub spans_from : ℕ → ℕ → Network → RangeAnswer → List SpanFinding → List (List (List ℕ))
spans_from query journey n answer [] = []
spans_from query journey n answer (found ∷ spans) =
    span_records query journey n answer found ++ spans_from query (journey + 1) n answer spans

-- the numbers of the spans go on from that of the walk on foot
abbrev pub rows_of : ℕ → Network → RangeAnswer → Option Finding → List SpanFinding → List (List (List ℕ))
rows_of query n answer (Some foot) spans = foot_records query n answer foot ++ spans_from query 2 n answer spans
rows_of query n answer None [] = range_none_record query answer ∷ []
rows_of query n answer None (found ∷ spans) = spans_from query 1 n answer (found ∷ spans)

abbrev pub range_records : ℕ → Network → RangeAnswer → List (List (List ℕ))
range_records query n answer = rows_of query n answer answer.foot answer.spans

pub record ArePrintable (n : Network) (answer : RangeAnswer) : Type 0 where
  pub foot : IfSome answer.foot (IsPrintable n)
  pub spans : All (λ found. IsPrintable n found.finding) answer.spans
