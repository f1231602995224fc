use Rattle.std.proofs.Common.{refl, sym}
use Rattle.std.proofs.lemmas.Result.{IfOk-weaker}
use Rattle.compiled_laws.proofs.Others.{table_fits}
use Rattle.range_answers.specs.Range.{sums_of}
use Rattle.range_answers.proofs.SpanLaws.{listed_spans}
use Rattle.range_answers.proofs.CostLaws.{range_searched}
use Rattle.range_answers.proofs.work.RangeWork.range.Goals as goal

pub returns-in_err-profile-clause-opens : goal.returns-in_err-profile-clause-opens
returns-in_err-profile-clause-opens g c = record {
  sums = sums_of c.measure.new.self;
  least = c.measure.ensures.sums;
  few = λ departures are. c.profile_with.ensures.counted c.args.compiled.now.network departures refl (sym c.requires.fits.table.buffer) are;
}

pub returns-clause-opens : goal.returns-clause-opens
returns-clause-opens g c = record {
  sums = sums_of c.measure.new.self;
  least = c.measure.ensures.sums;
  few = λ departures are. c.profile_with.ensures.counted c.args.compiled.now.network departures refl (sym c.requires.fits.table.buffer) are;
}

pub returns-clause-found : goal.returns-clause-found
returns-clause-found g c =
    let compiled = c.args.compiled.now in
    let table = table_fits compiled c.requires.fits in
    IfOk-weaker c.find_range.result _ _
    (λ found is.
    listed_spans compiled c.args.from c.args.to (sums_of c.measure.new.self) c.measure.ensures.sums c.args.limit c.args.first c.args.last c.in_ok-profile.profile found
    (c.in_ok-profile.ensures.range compiled.network table refl) (c.in_ok-profile.ensures.rides compiled.network table refl) is)
    c.find_range.ensures.found

pub returns-clause-searches : goal.returns-clause-searches
returns-clause-searches g c =
    let compiled = c.args.compiled.now in
    let table = table_fits compiled c.requires.fits in
    range_searched compiled c.args.from c.args.to (sums_of c.measure.new.self) c.measure.ensures.sums c.args.limit c.args.first c.args.last c.args.searches.now
    c.measure.new.searches c.find_range.new.searches c.in_ok-profile.profile c.measure.ensures.searches
    (c.in_ok-profile.ensures.range compiled.network table refl) (c.in_ok-profile.ensures.rides compiled.network table refl) c.find_range.ensures.ticks
