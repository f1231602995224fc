use Rattle.std.proofs.Common.{List, length, subst}
use Rattle.move_model.specs.declared.query.Query.{Query}
use Rattle.city_summary.specs.Summary.{AreTotals}
use Rattle.answer_rows.specs.Counted.{IsSearchedOver, IsOpenedOver, CountsFirst}
use Rattle.answer_rows.specs.Counted.CountsEach.{none}
use Rattle.city_summary.proofs.Rooms.{room_less}
use Rattle.city_summary.proofs.sum.summary.Goals as goal

pub counts_of_all-requires-clause-room : goal.counts_of_all-requires-clause-room
counts_of_all-requires-clause-room g c =
    λ k d h. room_less c.args.compiled.now c.greatest_limit-limit.result _ _ (c.greatest_limit-limit.ensures k d h) c.in_ok-works.ensures

pub returns-in_err-works-clause-searches : goal.returns-in_err-works-clause-searches
returns-in_err-works-clause-searches g c = (0, none)

pub returns-in_err-works-clause-opens : goal.returns-in_err-works-clause-opens
returns-in_err-works-clause-opens g c = (0, none)

pub returns-in_err-sums-clause-searches : goal.returns-in_err-sums-clause-searches
returns-in_err-sums-clause-searches g c =
    subst (λ (qs : List Query). CountsFirst (IsSearchedOver c.args.compiled.now.network) qs c.args.searches.now c.counts_of_all.new.searches)
    c.as_slice-queries.ensures c.counts_of_all.ensures.searches

pub returns-in_err-sums-clause-opens : goal.returns-in_err-sums-clause-opens
returns-in_err-sums-clause-opens g c =
    subst (λ (qs : List Query). CountsFirst (IsOpenedOver c.args.compiled.now.network (length c.args.compiled.now.table.routes)) qs c.args.opens.now c.counts_of_all.new.opens)
    c.as_slice-queries.ensures c.counts_of_all.ensures.opens

pub returns-clause-totals : goal.returns-clause-totals
returns-clause-totals g c =
    subst (λ (qs : List Query). AreTotals c.args.compiled.now.network qs c.totals_of.result) c.as_slice-queries.ensures c.totals_of.ensures

pub returns-clause-searches : goal.returns-clause-searches
returns-clause-searches g c =
    subst (λ (qs : List Query). CountsFirst (IsSearchedOver c.args.compiled.now.network) qs c.args.searches.now c.counts_of_all.new.searches)
    c.as_slice-queries.ensures c.counts_of_all.ensures.searches

pub returns-clause-opens : goal.returns-clause-opens
returns-clause-opens g c =
    subst (λ (qs : List Query). CountsFirst (IsOpenedOver c.args.compiled.now.network (length c.args.compiled.now.table.routes)) qs c.args.opens.now c.counts_of_all.new.opens)
    c.as_slice-queries.ensures c.counts_of_all.ensures.opens
