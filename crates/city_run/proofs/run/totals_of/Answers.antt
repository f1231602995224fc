use Rattle.std.proofs.Common.{inr, subst}
use Rattle.move_model.specs.declared.network.Network.{Network}
use Rattle.answer_rows.specs.Counted.{IsSearchedOver, CountsFirst}
use Rattle.city_run.proofs.CityLaws.{opened_over}
use Rattle.city_run.proofs.run.totals_of.Goals as goal

pub returns-clause-searches : goal.returns-clause-searches
returns-clause-searches g c =
    inr (subst (λ (n : Network). CountsFirst (IsSearchedOver n) c.args.queries.now c.args.searches.now c.summary.new.searches) c.in_ok-compiled.ensures.network c.summary.ensures.searches)

pub returns-clause-opens : goal.returns-clause-opens
returns-clause-opens g c =
    opened_over c.in_ok-compiled.compiled c.args.network c.args.queries.now _ _ c.in_ok-compiled.ensures.right c.in_ok-compiled.ensures.network c.summary.ensures.opens
