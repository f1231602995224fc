use Rattle.std.proofs.Common.{◌∙◌, ◌+◌, ℕ, length, get_or, ap, arith}
use Rattle.std.proofs.lemmas.List.{length_push}
use Rattle.bucket_walks.proofs.TwinLemmas.{twin_among, twins_more}
use Rattle.bucket_walks.proofs.twins.twins.Goals as goal

pub loop-stop-preserved : goal.loop-stop-preserved
loop-stop-preserved c = record {
  many = ap length c.in_ok-push.ensures.items ∙ length_push c.loop-stop.twins.items c.twin.result ∙ ap (λ (n : ℕ). n + 1) c.loop-stop.invariant.many;
  each = twins_more c.in_ok-by_stop.by_stop.entries.items c.loop-stop.twins.items c.push.new.self.items c.loop-stop.stop c.twin.result c.in_ok-push.ensures.items
      c.loop-stop.invariant.many c.loop-stop.invariant.each c.twin.ensures;
}

pub returns : goal.returns
returns c = record {
  one_each = omega (arith, c.loop-stop.invariant.many);
  each = λ q low.
      twin_among c.in_ok-by_stop.by_stop.entries.items c.args.list.now q (get_or c.loop-stop.twins.items q 0) c.in_ok-by_stop.ensures.entries
      (c.loop-stop.invariant.each q (omega arith));
}
