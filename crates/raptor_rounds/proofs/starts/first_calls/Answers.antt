use Rattle.std.proofs.Common.{◌≤◌, ℕ, slice_index, ap, ◌∙◌, arith, Some}
use Rattle.std.proofs.lemmas.Option.{slice_get-get_or}
use Rattle.route_split.specs.Table.{CallsAt}
use Rattle.raptor_rounds.proofs.StartsLemmas.{calls_within}
use Rattle.raptor_rounds.proofs.WalksLemmas.{below_more}
use Rattle.raptor_rounds.proofs.starts.first_calls.Goals as goal

pub lower_starts-requires : goal.lower_starts-requires
lower_starts-requires c k d here =
    omega (arith, calls_within _ _ _ c.at_stop.ensures.calls k d here, c.requires.routes, c.loop-stop.invariant.as_long)

pub loop-stop-preserved : goal.loop-stop-preserved
loop-stop-preserved c =
    let was = c.loop-stop.invariant in
    let now = c.lower_starts.ensures in
    let stops = c.as_slice-stops.result.now in
    let routes = c.args.table.now.routes in
    record {
      known = λ i x r k lt at calls. below_more 0 stops c.loop-stop.stop-index
          (λ x. (r k : ℕ) → CallsAt routes x r k → slice_index c.lower_starts.new.starts r ≤ k) c.loop-stop-test.true
          (λ i x less at r k calls. omega (arith, was.known i x r k less at calls, now.falls r))
          (λ r k calls. now.each r k ((c.at_stop.ensures.calls r k).1 calls)) i x lt at r k calls;
      as_long = now.length ∙ was.as_long;
    }

pub returns-clause-known : goal.returns-clause-known
returns-clause-known c x r k is at =
    let has = (c.as_slice-stops.ensures.numbers x).1 is in
    c.loop-stop.invariant.known has.0 x r k (omega (arith, has.1, c.loop-stop-test.false)) (slice_get-get_or c.as_slice-stops.result.now has.0 x has.1 ∙ ap Some has.2) at
