use Rattle.city_run.proofs.CityLaws.{few_queries}
use Rattle.city_run.proofs.run.totals_of_city.Goals as goal

pub totals_of-requires-clause-few : goal.totals_of-requires-clause-few
totals_of-requires-clause-few g c = few_queries _ _ _ c.in_ok-network.field-0 c.in_ok-network.ensures.city
