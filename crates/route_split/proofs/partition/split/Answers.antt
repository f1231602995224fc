use Rattle.std.proofs.Common.{◌≡◌, ℕ, ◌+◌, ◌<◌, ◌++◌, [], ◌∷◌, List, length, set, subst, sym, ap, ◌∙◌, arith}
use Rattle.std.specs.Prelude.{slice_index}
use Rattle.route_split.specs.declared.chains.Chains.{Chains}
use Rattle.route_split.specs.Split.{IsSplit}
use Rattle.route_split.specs.Chains.{IsSoFar}
use Rattle.route_split.specs.Jumps.{AreJumped}
use Rattle.route_split.proofs.SoFarLemmas.{so_far_none, so_far_moved, so_far_join, so_far_open}
use Rattle.route_split.proofs.partition.split.Goals as goal
use Rattle.route_split.proofs.partition.split.Goals.{in-Some+in_ok-push-in-Some+in_ok-join-in-Some, in-None+in_ok-push-in-None+in_ok-open-in-None}

pub loop-u-init : goal.loop-u-init
loop-u-init c =
    let chains = c.in_ok-chains.chains in
    let is = so_far_none c.args.trips.now c.new-routes.result.items chains.lasts.items chains.tops.items chains.nexts.items
    c.new-routes.ensures.items c.in_ok-chains.ensures.lasts c.in_ok-chains.ensures.some c.in_ok-chains.ensures.chained in
    record {
      split = is.split;
      lasts = is.ends;
      few = is.few;
      some = is.some;
      chained = is.chained;
      jumped = record {
        one_each = ap length c.in_ok-chains.ensures.jumps ∙ sym (ap length c.in_ok-chains.ensures.lasts);
        low_each = ap length c.in_ok-chains.ensures.lows ∙ sym (ap length c.in_ok-chains.ensures.lasts);
        jump = λ g low. absurd (omega (arith, low, ap length c.in_ok-chains.ensures.lasts));
      };
      trees = ap length c.in_ok-chains.ensures.trees ∙ sym (ap length c.in_ok-chains.ensures.lasts);
    }

pub loop-u-preserved : goal.loop-u-preserved
loop-u-preserved c =
    let trips = c.args.trips.now in
    let routes = c.loop-u.routes.items in
    let lasts = c.loop-u.chains.lasts.items in
    let tops = c.loop-u.chains.tops.items in
    let nexts = c.loop-u.chains.nexts.items in
    let u = c.loop-u.u in
    let inv = c.loop-u.invariant in
    let was : IsSoFar trips routes lasts tops nexts u = record { split = inv.split; ends = inv.lasts; few = inv.few; some = inv.some; chained = inv.chained } in
    let routes' : List ℕ = c.match-route_for.routes.items in
    let chains' : Chains = c.match-route_for.chains in
    elim c.match-route_for.branch [
      | in-Some+in_ok-push-in-Some+in_ok-join-in-Some w ↦
          let g = w.in-Some.g in
          let er : routes' ≡ routes ++ g ∷ [] = ap (λ v. v.items) w.routes-is ∙ w.in_ok-push-in-Some.ensures.items in
          let el : chains'.lasts.items ≡ set lasts g u = ap (λ (v : Chains). v.lasts.items) w.chains-is ∙ w.in_ok-join-in-Some.ensures.lasts in
          let et : chains'.tops.items ≡ tops = ap (λ (v : Chains). v.tops.items) w.chains-is ∙ w.in_ok-join-in-Some.ensures.tops in
          let en : chains'.nexts.items ≡ nexts = ap (λ (v : Chains). v.nexts.items) w.chains-is ∙ w.in_ok-join-in-Some.ensures.nexts in
          let is = so_far_moved trips _ _ _ _ routes' chains'.lasts.items chains'.tops.items chains'.nexts.items (u + 1) er el et en
          (so_far_join trips routes lasts tops nexts u c.loop-u-test.true was g w.in-Some.ensures.found w.in-Some.ensures.fits) in
          record {
            split = is.split;
            lasts = is.ends;
            few = is.few;
            some = is.some;
            chained = is.chained;
            jumped = subst (λ (v : Chains). AreJumped trips (length v.tops.items) v.lasts.items v.nexts.items v.jumps.items v.lows.items) (sym w.chains-is) w.in_ok-join-in-Some.ensures.jumped;
            trees = subst (λ (v : Chains). length v.trees.items ≡ length v.lasts.items) (sym w.chains-is) w.in_ok-join-in-Some.ensures.trees;
          }
      | in-None+in_ok-push-in-None+in_ok-open-in-None w ↦
          let chain = c.chain_of-chain.result in
          let n_is : w.len.result ≡ length lasts = omega (arith, w.len.ensures) in
          let er : routes' ≡ routes ++ length lasts ∷ [] =
          ap (λ v. v.items) w.routes-is ∙ w.in_ok-push-in-None.ensures.items ∙ ap (λ (n : ℕ). routes ++ n ∷ []) n_is in
          let el : chains'.lasts.items ≡ lasts ++ u ∷ [] = ap (λ (v : Chains). v.lasts.items) w.chains-is ∙ w.in_ok-open-in-None.ensures.lasts in
          let et : chains'.tops.items ≡ set tops chain (length lasts + 1) = ap (λ (v : Chains). v.tops.items) w.chains-is ∙ w.in_ok-open-in-None.ensures.tops in
          let en : chains'.nexts.items ≡ nexts ++ slice_index tops chain ∷ [] = ap (λ (v : Chains). v.nexts.items) w.chains-is ∙ w.in_ok-open-in-None.ensures.nexts in
          let is = so_far_moved trips _ _ _ _ routes' chains'.lasts.items chains'.tops.items chains'.nexts.items (u + 1) er el et en
          (so_far_open trips routes lasts tops nexts u c.loop-u-test.true was chain c.chain_of-chain.ensures.below c.chain_of-chain.ensures.bucket w.in-None.ensures.none) in
          record {
            split = is.split;
            lasts = is.ends;
            few = is.few;
            some = is.some;
            chained = is.chained;
            jumped = subst (λ (v : Chains). AreJumped trips (length v.tops.items) v.lasts.items v.nexts.items v.jumps.items v.lows.items) (sym w.chains-is) w.in_ok-open-in-None.ensures.jumped;
            trees = subst (λ (v : Chains). length v.trees.items ≡ length v.lasts.items) (sym w.chains-is) w.in_ok-open-in-None.ensures.trees;
          }
    ]

pub returns-clause-split : goal.returns-clause-split
returns-clause-split c =
    let lasts = c.loop-u.chains.lasts.items in
    let count_is : c.len-count.result ≡ length lasts = omega (arith, c.len-count.ensures) in
    let all : c.loop-u.u ≡ length c.args.trips.now = omega (arith, c.loop-u-test.false, c.loop-u.auto.u-end) in
    subst (λ n. IsSplit c.args.trips.now c.loop-u.routes.items n c.len-count.result) all
    (subst (λ n. IsSplit c.args.trips.now c.loop-u.routes.items c.loop-u.u n) (sym count_is) c.loop-u.invariant.split)

pub returns-clause-used : goal.returns-clause-used
returns-clause-used c =
    let lasts = c.loop-u.chains.lasts.items in
    let count_is : c.len-count.result ≡ length lasts = omega (arith, c.len-count.ensures) in
    let all : c.loop-u.u ≡ length c.args.trips.now = omega (arith, c.loop-u-test.false, c.loop-u.auto.u-end) in
    λ g low.
    let within : g < length lasts = omega (arith, low, count_is) in
    (slice_index lasts g, omega (arith, c.loop-u.invariant.lasts.within g within, all), c.loop-u.invariant.lasts.in_route g within)
