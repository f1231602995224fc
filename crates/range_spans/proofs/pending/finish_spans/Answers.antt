use Rattle.std.proofs.Common.{◌≡◌, ◌∙◌, reverse, ap, subst, sym, arith}
use Rattle.std.proofs.lemmas.List.{take_at}
use Rattle.move_model.specs.Range.{CarriesRides}
use Rattle.range_spans.specs.Open.{Stands}
use Rattle.range_spans.proofs.Steps.{range_of}
use Rattle.range_spans.proofs.Loop.{none_led, each_one}
use Rattle.range_spans.proofs.pending.finish_spans.Goals as goal

pub returns-clause-range : goal.returns-clause-range
returns-clause-range c q last stand later =
    let spans_are : c.from_vec.result ≡ reverse c.close_spans.new.closed.items =
    c.from_vec.ensures ∙ take_at c.reverse.new.self _ _ (omega (arith, c.reverse.ensures.len, c.as_mut_slice.ensures.len)) ∙ c.reverse.ensures.after ∙ ap reverse c.as_mut_slice.ensures.value in
    range_of q c.args.first last c.close_spans.new.pending c.from_vec.result
    (subst (λ v. Stands q c.args.first last c.close_spans.new.pending v) (sym spans_are) (c.in_ok-close_spans.ensures.stands q last stand later))
    (λ k s at. none_led c.no_leads.new.leads k s.arrive c.no_leads.ensures.none (c.in_ok-close_spans.ensures.kept k s at))

pub returns-clause-rides : goal.returns-clause-rides
returns-clause-rides c q last stand later =
    let spans_are : c.from_vec.result ≡ reverse c.close_spans.new.closed.items =
    c.from_vec.ensures ∙ take_at c.reverse.new.self _ _ (omega (arith, c.reverse.ensures.len, c.as_mut_slice.ensures.len)) ∙ c.reverse.ensures.after ∙ ap reverse c.as_mut_slice.ensures.value in
    each_one (CarriesRides q.network q.first_row q.last_row q.list) c.from_vec.result
    (subst (λ v. Stands q c.args.first last c.close_spans.new.pending v) (sym spans_are) (c.in_ok-close_spans.ensures.stands q last stand later)).rides
