use Rattle.std.proofs.Common.{◌≡◌, ◌-◌, ◌<◌, inl, inr, length, sym, subst, ◌∙◌, arith}
use Rattle.std.proofs.lemmas.Bool.{cases_order}
use Rattle.std.specs.Prelude.{slice_index}
use Rattle.std.proofs.lemmas.List.{get_or_read}
use Rattle.route_split.specs.Split.{CanStand, CannotStand}
use Rattle.route_split.proofs.ChainLemmas.{none_at_all}
use Rattle.route_split.proofs.chains.Chains.route_for.Goals as goal

pub returns-then-fits-clause-fits : goal.returns-then-fits-clause-fits
returns-then-fits-clause-fits c =
    let lasts = c.args.self.now.lasts.items in
    let link = c.loop-link.link in
    let some : 0 < link = omega (arith, c.loop-link-test.true) in
    let low : link - 1 < length lasts = omega (arith, some, c.loop-link.invariant.low) in
    let last_is : c.index.result.now ≡ slice_index lasts (link - 1) = get_or_read lasts (link - 1) c.index.result.now low c.index.ensures 0 in
    subst (λ n. CanStand c.args.trips.now n c.args.u) last_is (c.fits.ensures.yes c.if-fits.true)

pub loop-link-smaller : goal.loop-link-smaller
loop-link-smaller c = omega (arith, c.loop-link-test.true, c.behind-link.ensures.low)

pub loop-link-preserved : goal.loop-link-preserved
loop-link-preserved c =
    let trips = c.args.trips.now in
    let lasts = c.args.self.now.lasts.items in
    let was = c.loop-link.invariant in
    let link = c.loop-link.link in
    let some : 0 < link = omega (arith, c.loop-link-test.true) in
    let low : link - 1 < length lasts = omega (arith, some, was.low) in
    let last_is : c.index.result.now ≡ slice_index lasts (link - 1) = get_or_read lasts (link - 1) c.index.result.now low c.index.ensures 0 in
    let not_here = subst (λ n. CannotStand trips n c.args.u) last_is (c.fits.ensures.no c.if-fits.false) in
    let next = c.behind-link.ensures in
    record {
      low = omega (arith, low, next.low);
      on = λ more. next.on more ∙ was.on some;
      tried = λ g low_g over on. elim (cases_order g (link - 1)) [
        | inl same ↦ subst (λ n. CannotStand trips (slice_index lasts n) c.args.u) (sym same) not_here
        | inr apart ↦ elim apart [
          | inl before ↦ next.none g before over (on ∙ sym (was.on some))
          | inr behind ↦ was.tried g low_g (omega (arith, behind, some)) on
        ]
      ];
    }

pub returns-clause-none : goal.returns-clause-none
returns-clause-none c =
    let was = c.loop-link.invariant in
    none_at_all c.args.trips.now c.args.self.now.lasts.items c.args.self.now.tops.items c.args.self.now.nexts.items c.args.u c.args.chain
    c.requires.chained c.requires.below c.requires.lasts c.requires.u c.requires.chain
    (λ g low on. was.tried g low (omega (arith, c.loop-link-test.false)) on)
