-- What a run of the city of three numbers sends, and how much it searches for it.
--     IsSummed side lines number totals      the totals are those of the city's network and of the answers to its queries
--     SendsSummary side lines number old new   behind the old bytes stand the lines of such totals
--     SendsPart side lines number old new    behind the old bytes stands a prefix of such lines
--     SearchesForCity side lines number before after   searches in the streets, for the city's queries, or none
--     OpensForCity side lines number before after   openings of routes for them, or none
use Rattle.std.specs.Prelude.{◌≡◌, ◌⊎◌, ◌++◌, ℕ, List, length}
use Rattle.move_model.specs.declared.network.Network.{Network}
use Rattle.move_model.specs.declared.network.TripNo.{TripNo}
use Rattle.move_model.specs.declared.query.Query.{Query}
use Rattle.move_files.specs.Outside.{SendsPrefix}
use Rattle.route_split.specs.Routes.{AreRoutes}
use Rattle.city_maker.specs.City.{IsCity}
use Rattle.city_maker.specs.declared.make.Generated.{Generated}
use Rattle.city_summary.specs.declared.totals.Totals.{Totals}
use Rattle.city_summary.specs.Summary.{AreTotals}
use Rattle.city_summary.specs.Text.{summary_text}
use Rattle.answer_rows.specs.Counted.{IsSearchedOver, IsOpenedOver, CountsFirst}

pub record IsSummed (side lines number : ℕ) (totals : Totals) : Type 0 where
  pub city : Generated
  pub is_city : IsCity side lines number city
  pub are_totals : AreTotals city.network city.queries totals

pub record SendsSummary (side lines number : ℕ) (old new : List ℕ) : Type 0 where
  pub totals : Totals
  pub summed : IsSummed side lines number totals
  pub sent : new ≡ old ++ summary_text totals

pub record SendsPart (side lines number : ℕ) (old new : List ℕ) : Type 0 where
  pub totals : Totals
  pub summed : IsSummed side lines number totals
  pub sent : SendsPrefix old (summary_text totals) new

abbrev pub SearchesOver : Network → List Query → ℕ → ℕ → Type 0
SearchesOver n queries before after = (after ≡ before) ⊎ CountsFirst (IsSearchedOver n) queries before after

-- the routes of the trips, in which none overtakes another
abbrev pub OpensOver : Network → List Query → ℕ → ℕ → Type 0
OpensOver n queries before after =
    (after ≡ before) ⊎ ((routes : List (List TripNo)) × AreRoutes n.trips routes × CountsFirst (IsOpenedOver n (length routes)) queries before after)

abbrev pub SearchesForCity : ℕ → ℕ → ℕ → ℕ → ℕ → Type 0
SearchesForCity side lines number before after =
    (after ≡ before) ⊎ ((city : Generated) × IsCity side lines number city × SearchesOver city.network city.queries before after)

abbrev pub OpensForCity : ℕ → ℕ → ℕ → ℕ → ℕ → Type 0
OpensForCity side lines number before after =
    (after ≡ before) ⊎ ((city : Generated) × IsCity side lines number city × OpensOver city.network city.queries before after)
