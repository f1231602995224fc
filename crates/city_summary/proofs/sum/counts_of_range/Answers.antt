use Rattle.std.proofs.Common.{◌<◌, ◌-◌, ◌^◌, ◌∙◌, List, length, map, subst, sym, ap, arith}
use Rattle.std.specs.Prelude.{sum_by}
use Rattle.std.specs.Option.{option_map}
use Rattle.move_model.specs.declared.journey.Finding.{Finding}
use Rattle.move_model.specs.declared.journey.SpanFinding.{SpanFinding}
use Rattle.move_model.specs.Found.{span_of}
use Rattle.city_summary.proofs.Bounds.{found_spans_small, spans_counted}
use Rattle.city_summary.proofs.sum.counts_of_range.Goals as goal

pub arrivals_of_spans-requires : goal.arrivals_of_spans-requires
arrivals_of_spans-requires g c =
    let small = found_spans_small c.args.compiled.now.network c.args.from.now.node c.args.to.now.node c.args.limit c.args.first c.args.last _ c.in_ok-found.found.spans c.requires.right.fits.rules c.requires.asked.3 c.requires.asked.4 c.requires.asked.5 c.in_ok-found.ensures.found.range in
    subst (λ (spans : List SpanFinding). sum_by (λ (span : SpanFinding). span.finding.pair.arrive) spans < 2 ^ 64) (sym c.as_slice-spans.ensures) (omega (arith, small.total))

pub returns-clause-few : goal.returns-clause-few
returns-clause-few g c =
    let small = found_spans_small c.args.compiled.now.network c.args.from.now.node c.args.to.now.node c.args.limit c.args.first c.args.last _ c.in_ok-found.found.spans c.requires.right.fits.rules c.requires.asked.3 c.requires.asked.4 c.requires.asked.5 c.in_ok-found.ensures.found.range in
    record {
      pairs = omega arith;
      spans = omega (arith, ap (λ (spans : List SpanFinding). length spans) c.as_slice-spans.ensures, small.few);
      arrivals = omega (arith, c.arrivals_of_spans.ensures, ap (λ (spans : List SpanFinding). sum_by (λ (span : SpanFinding). span.finding.pair.arrive) spans) c.as_slice-spans.ensures, small.total);
    }

pub returns-clause-counts : goal.returns-clause-counts
returns-clause-counts g c =
    let spans = c.in_ok-found.found.spans in (
      record { foot = option_map (λ (finding : Finding). finding.pair.arrive - c.args.first) c.in_ok-found.found.foot; spans = map span_of spans },
      c.in_ok-found.ensures.found.range,
      spans_counted spans (length c.as_slice-spans.result.now) c.arrivals_of_spans.result (ap (λ (spans : List SpanFinding). length spans) c.as_slice-spans.ensures)
          (c.arrivals_of_spans.ensures ∙ ap (λ (spans : List SpanFinding). sum_by (λ (span : SpanFinding). span.finding.pair.arrive) spans) c.as_slice-spans.ensures),
    )
