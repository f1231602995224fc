-- What is answered to a query.
--     Answer                     what is found for a query: the findings of a point, or the walk on foot and the spans of a range
--     IsListedAnswer c q a       the listed answer of a compiled value c, right or not
--     IsExactAnswer n q a        the exact answer over all journeys of a network n
--     GoesByList n list a        between two rides the passenger stays at the stop, or goes by a pair of the list
--     IsAnswerOf c q a           the listed answer of c, which goes by its list, and is exact if c is right
use Rattle.std.specs.Prelude.{List, All, Option}
use Rattle.move_model.specs.declared.network.Network.{Network}
use Rattle.move_model.specs.declared.journey.Finding.{Finding}
use Rattle.move_model.specs.declared.journey.SpanFinding.{SpanFinding}
use Rattle.move_model.specs.declared.journey.Shortcut.{Shortcut}
use Rattle.move_model.specs.declared.query.Query.{Query}
use Rattle.move_model.specs.declared.query.Query.TheVariants as query
use Rattle.move_model.specs.Found.{IsPointAnswer, IsRangeAnswer}
use Rattle.move_model.specs.Shortcut.{TransfersListed}
use Rattle.network_file.specs.declared.compiled.Compiled.{Compiled}
use Rattle.network_file.specs.Compiled.{IsRight}
use Rattle.network_file.specs.Answers.{IsListedPoint, IsListedSpans}

pub data Answer : Type 0 where
  point : List Finding → Answer
  range : Option Finding → List SpanFinding → Answer

-- a query and an answer of two kinds do not go together
abbrev pub IsListedAnswer : Compiled → Query → Answer → Type 0
IsListedAnswer c (query.At from to depart limit) (point found) = IsListedPoint c from.node depart to.node limit found
IsListedAnswer c (query.At from to depart limit) (range foot spans) = ⊥
IsListedAnswer c (query.Range from to first last limit) (point found) = ⊥
IsListedAnswer c (query.Range from to first last limit) (range foot spans) = IsListedSpans c from.node to.node limit first last foot spans

abbrev pub IsExactAnswer : Network → Query → Answer → Type 0
IsExactAnswer n (query.At from to depart limit) (point found) = IsPointAnswer n from.node depart to.node limit found
IsExactAnswer n (query.At from to depart limit) (range foot spans) = ⊥
IsExactAnswer n (query.Range from to first last limit) (point found) = ⊥
IsExactAnswer n (query.Range from to first last limit) (range foot spans) = IsRangeAnswer n from.node to.node limit first last foot spans

-- a walk on foot has no rides
abbrev pub GoesByList : Network → List Shortcut → Answer → Type 0
GoesByList n list (point found) = All (λ finding. TransfersListed n list finding.journey.rides) found
GoesByList n list (range foot spans) = All (λ found. TransfersListed n list found.finding.journey.rides) spans

pub record IsAnswerOf (c : Compiled) (q : Query) (answer : Answer) : Type 0 where
  pub listed : IsListedAnswer c q answer
  pub transfers : GoesByList c.network c.shortcuts answer
  pub exact : IsRight c → IsExactAnswer c.network q answer
