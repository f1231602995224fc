use Rattle.std.proofs.Common.{◌≡◌, ◌∙◌, ◌+◌, ◌<◌, ◌++◌, [], ◌∷◌, length, get_or, take, refl, sym, ap, subst, arith}
use Rattle.std.proofs.lemmas.List.{take_more}
use Rattle.std.proofs.lemmas.List.Sums.{sum_by_more}
use Rattle.move_model.specs.declared.journey.Span.{Span}
use Rattle.range_answers.specs.Spans.{AreFound}
use Rattle.range_answers.specs.Spans.AreFound.{none}
use Rattle.range_answers.proofs.SpanLaws.{found_more}
use Rattle.range_answers.proofs.found.find_spans.Goals as goal

pub loop-span-init : goal.loop-span-init
loop-span-init g c = record {
  found = subst (λ all. AreFound c.args.compiled.now c.args.from c.args.to [] all) (sym c.new-found.ensures) none;
  nodes = refl;
  ticks = omega arith;
}

pub loop-span-preserved : goal.loop-span-preserved
loop-span-preserved g c =
    let spans = c.args.spans.now in
    let i = c.loop-span.span-index in
    let span = c.span-item.result in
    let within : c.loop-span.span-index < length c.args.spans.now = rw c.as_slice-span-items.ensures at c.loop-span-test.true in
    let is : c.span-item.result ≡ get_or c.args.spans.now c.loop-span.span-index c.span-item.result = rw c.as_slice-span-items.ensures at c.span-item.is in
    let more : take (c.loop-span.span-index + 1) c.args.spans.now ≡ take c.loop-span.span-index c.args.spans.now ++ c.span-item.result ∷ [] =
    take_more spans i span within ∙ ap (λ x. take i spans ++ x ∷ []) (sym is) in
    record {
      found =
          subst (λ xs. AreFound c.args.compiled.now c.args.from c.args.to xs c.add_span.new.found) (sym more)
          (found_more c.args.compiled.now c.args.from c.args.to (take i spans) c.loop-span.found c.add_span.new.found span c.loop-span.invariant.found
          c.in_ok-add_span.ensures.adds);
      nodes = c.add_span.ensures.nodes ∙ c.loop-span.invariant.nodes;
      ticks =
          omega (
            arith,
            c.add_span.ensures.ticks,
            c.loop-span.invariant.ticks,
            ap (λ (x : Span). length x.rides) is,
            sum_by_more (λ (x : Span). length x.rides + 1) spans i span within,
          );
    }
