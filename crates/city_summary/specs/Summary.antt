-- The summary of the answers to queries over a network.
--     HasCounts n query counts       how many pairs or spans the query's answer has, and the sum of their arrivals
--     AreCounts n queries counts     these of each query, in their order
--     HasSums n queries sums         the sums of the counts of all queries
--     HasShortcuts n many            the network has so many shortcuts
--     AreTotals n queries totals     the size of the network, the number of its shortcuts, the number of queries, and these sums
use Rattle.std.specs.Prelude.{◌≡◌, ℕ, List, [], ◌∷◌, length, sum_by}
use Rattle.move_model.specs.declared.network.Network.{Network}
use Rattle.move_model.specs.declared.journey.Pair.{Pair}
use Rattle.move_model.specs.declared.journey.Span.{Span}
use Rattle.move_model.specs.declared.journey.Profile.{Profile}
use Rattle.move_model.specs.declared.journey.Shortcut.{Shortcut}
use Rattle.move_model.specs.declared.query.Query.{Query}
use Rattle.move_model.specs.declared.query.Query.TheVariants as query
use Rattle.move_model.specs.Journey.{IsParetoList}
use Rattle.move_model.specs.Range.{IsRange}
use Rattle.move_model.specs.Shortcut.{IsShortcutList}
use Rattle.city_summary.specs.declared.totals.Counts.{Counts}
use Rattle.city_summary.specs.declared.totals.Totals.{Totals}

-- the pairs of a query at a second
pub record HasPairs (pairs : List Pair) (counts : Counts) : Type 0 where
  pub pairs_are : counts.pairs ≡ length pairs
  pub no_spans : counts.spans ≡ 0
  pub arrivals : counts.arrivals ≡ sum_by (λ (pair : Pair). pair.arrive) pairs

-- the spans of a range
pub record HasSpans (spans : List Span) (counts : Counts) : Type 0 where
  pub no_pairs : counts.pairs ≡ 0
  pub spans_are : counts.spans ≡ length spans
  pub arrivals : counts.arrivals ≡ sum_by (λ (span : Span). span.arrive) spans

-- of the Pareto set, or of the range answer
abbrev pub HasCounts : Network → Query → Counts → Type 0
HasCounts n (query.At from to depart limit) counts =
    (pairs : List Pair) × IsParetoList n from.node depart to.node limit pairs × HasPairs pairs counts
HasCounts n (query.Range from to first last limit) counts =
    (profile : Profile) × IsRange n from.node to.node limit first last profile × HasSpans profile.spans counts

pub data AreCounts (n : Network) : List Query → List Counts → Type 0 where
  none : AreCounts n [] []
  next : {query : Query} {queries : List Query} {counts : Counts} {rest : List Counts}
      → HasCounts n query counts → AreCounts n queries rest → AreCounts n (query ∷ queries) (counts ∷ rest)

-- the sums of these counts
pub record HasSums (n : Network) (queries : List Query) (sums : Counts) : Type 0 where
  pub counts : List Counts
  pub are_counts : AreCounts n queries counts
  pub pairs : sums.pairs ≡ sum_by (λ (c : Counts). c.pairs) counts
  pub spans : sums.spans ≡ sum_by (λ (c : Counts). c.spans) counts
  pub arrivals : sums.arrivals ≡ sum_by (λ (c : Counts). c.arrivals) counts

-- the network has one list of shortcuts
abbrev pub HasShortcuts : Network → ℕ → Type 0
HasShortcuts n many = (list : List Shortcut) × IsShortcutList n list × (many ≡ length list)

pub record AreTotals (n : Network) (queries : List Query) (totals : Totals) : Type 0 where
  pub vertices : totals.vertices ≡ n.nodes
  pub arcs : totals.arcs ≡ length n.arcs
  pub stops : totals.stops ≡ length n.stops
  pub trips : totals.trips ≡ length n.trips
  pub shortcuts : HasShortcuts n totals.shortcuts
  pub many : totals.queries ≡ length queries
  pub sums : HasSums n queries (record { pairs = totals.pairs; spans = totals.spans; arrivals = totals.arrivals })
