use Rattle.std.proofs.Common.{◌≡◌, true, false, arith}
use Rattle.std.proofs.lemmas.Int.{ints}
use Rattle.service_day.proofs.DayLemmas.{is_day_before, year_from_zero, has_yesterday}
use Rattle.service_day.proofs.day.day_before.Goals as goal

pub returns-clause-value : goal.returns-clause-value
returns-clause-value c =
    is_day_before c.args.day c.civil_date.result c.in-Ok.before _ _ _ c.civil_date.ensures c.in-Ok.ensures.value
    (omega (arith, ints), omega (arith, ints), omega (arith, ints))

pub returns-then-year-lt0-clause-first : goal.returns-then-year-lt0-clause-first
returns-then-year-lt0-clause-first c =
    absurd (year_from_zero c.args.day c.civil_date.result c.in-Ok.before c.if-day-eq-FIRST_DAY.false c.civil_date.ensures c.in-Ok.ensures.value (omega (arith, ints)))

pub returns-in_default-clause-first : goal.returns-in_default-clause-first
returns-in_default-clause-first c =
    let there = has_yesterday c.args.day c.civil_date.result c.civil_date.ensures in
    let no : false ≡ true = c.in_default.ensures.succeeds.1 there in
    cc
