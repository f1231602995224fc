use Rattle.std.proofs.Common.{◌<◌, ◌^◌, List, subst, sym, ap, arith}
use Rattle.std.specs.Prelude.{sum_by}
use Rattle.move_model.specs.declared.journey.Finding.{Finding}
use Rattle.city_summary.proofs.Bounds.{findings_small}
use Rattle.city_summary.proofs.sum.counts_of_point.Goals as goal

pub arrivals_of_pairs-requires : goal.arrivals_of_pairs-requires
arrivals_of_pairs-requires g c =
    let small = findings_small c.args.compiled.now.network c.args.from.now.node c.args.depart c.args.to.now.node c.args.limit c.in_ok-found.found c.requires.right.fits.rules c.requires.asked.2 c.requires.asked.3 c.in_ok-found.ensures.found.pareto in
    subst (λ (found : List Finding). sum_by (λ (finding : Finding). finding.pair.arrive) found < 2 ^ 64) (sym c.as_slice.ensures) (omega (arith, small.total))

pub returns-clause-few : goal.returns-clause-few
returns-clause-few g c =
    let small = findings_small c.args.compiled.now.network c.args.from.now.node c.args.depart c.args.to.now.node c.args.limit c.in_ok-found.found c.requires.right.fits.rules c.requires.asked.2 c.requires.asked.3 c.in_ok-found.ensures.found.pareto in
    record {
      pairs = omega (arith, c.len.ensures, small.few);
      spans = omega arith;
      arrivals = omega (arith, c.arrivals_of_pairs.ensures, ap (λ (found : List Finding). sum_by (λ (finding : Finding). finding.pair.arrive) found) c.as_slice.ensures, small.total);
    }
