use Rattle.std.proofs.Common.{◌≡◌, ℕ, ◌+◌, ◌*◌, subst, sym, refl, ap, ◌∙◌, arith, List, Option}
use Rattle.std.proofs.lemmas.List.{length-set}
use Rattle.raptor_rounds.specs.Labels.{Covers}
use Rattle.raptor_rounds.specs.Least.{IsBestOf, IsReset, Stands, Sizes}
use Rattle.raptor_rounds.proofs.BeginLemmas.{closed_first, covers_first, stands_first, best_first}
use Rattle.raptor_rounds.proofs.LaterLemmas.{stands_more, bests_more}
use Rattle.raptor_rounds.proofs.turns.run_rounds.Goals as goal

pub loop-k-init : goal.loop-k-init
loop-k-init g c =
    let table = c.args.table.now in
    let sizes = c.reset.ensures.sizes in
    let is : IsReset c.args.first.now c.args.depart table.stops c.reset.new.ready c.reset.new.found =
    subst (λ n. IsReset c.args.first.now c.args.depart n c.reset.new.ready c.reset.new.found) c.requires.sizes.seconds c.reset.ensures.reset in
    let sized : Sizes table.stops c.reset.new.ready c.reset.new.found =
    subst (λ n. Sizes n c.reset.new.ready c.reset.new.found) c.requires.sizes.seconds sizes in
    record {
      sizes = sized;
      starts = refl;
      marks = refl;
      base_is = omega arith;
      closed = closed_first table c.args.list.now c.args.first.now c.args.last.now c.args.depart c.reset.new.ready c.reset.new.found sized is c.reset.ensures.best
          c.routes-routes.ensures.whole c.requires.list c.requires.first c.requires.last;
      covers = covers_first table c.args.list.now c.args.first.now c.args.last.now c.args.depart c.reset.new.ready c.reset.new.found sized is c.reset.ensures.best
          c.routes-routes.ensures.whole c.requires.list c.requires.first c.requires.last;
      counted = omega arith;
      stands = λ q asks. stands_first table c.args.list.now c.args.first.now c.args.last.now c.args.depart c.reset.new.ready c.reset.new.found sized is c.reset.ensures.best
          c.routes-routes.ensures.whole c.requires.list c.requires.first c.requires.last q asks c.args.slots.now;
      bests = λ q asks j b few at. best_first table c.args.list.now c.args.first.now c.args.last.now c.args.depart c.reset.new.ready c.reset.new.found sized is c.reset.ensures.best
          c.routes-routes.ensures.whole c.requires.list c.requires.first c.requires.last q asks c.args.slots.now c.args.bests.now c.reset.new.found.best_step j b (omega (arith, c.requires.bests)) few at;
    }

pub loop-k-preserved : goal.loop-k-preserved
loop-k-preserved g c =
    let was = c.loop-k.invariant in
    let now = c.round.ensures in
    let table = c.args.table.now in
    let k = c.loop-k.k in
    let stops_are : table.stops ≡ c.stops-stops.result = sym c.stops-stops.ensures in
    record {
      sizes = now.sizes;
      starts = now.starts ∙ was.starts;
      marks = now.marks ∙ was.marks;
      base_is = omega (arith, was.base_is, stops_are);
      closed = now.closed was.closed;
      covers = now.covers was.covers;
      counted = omega (arith, was.counted, now.counted);
      stands = λ q asks. subst (λ n. Stands q (k + 1) (c.loop-k.base + n) c.round.new.slots c.round.new.ready c.round.new.found) stops_are
          (stands_more q k table.stops c.loop-k.base c.loop-k.slots c.round.new.slots c.loop-k.ready c.round.new.ready c.loop-k.found c.round.new.found now.slots (was.stands q asks)
          (now.goes_on q k asks.table_of asks.last_is asks.list_is was.closed));
      bests = λ q asks j b few at. subst (λ n. IsBestOf q c.round.new.slots (c.loop-k.base + n) j b) stops_are
          (bests_more q table k table.stops c.loop-k.base c.loop-k.slots c.round.new.slots c.loop-k.ready c.round.new.ready c.loop-k.found c.round.new.found c.loop-k.bests
          asks.table_of c.routes-routes.ensures.whole now.slots (was.stands q asks) (now.goes_on q k asks.table_of asks.last_is asks.list_is was.closed)
          (subst (λ (l : List (Option ℕ)). Covers l c.round.new.found) (sym asks.last_is) (now.covers was.covers))
          (omega (
            arith,
            c.requires.bests,
            c.loop-k.auto.bests,
            c.loop-k-test.true,
            c.loop-k.auto.k-end,
            length-set c.args.bests.now 0 (record { second = c.reset.new.found.best; step = c.reset.new.found.best_step }),
          )) (was.bests q asks) j b few at);
    }

pub returns-clause-best : goal.returns-clause-best
returns-clause-best g c q asks k b few at =
    let k_is : c.loop-k.k ≡ c.args.limit = omega (arith, c.loop-k-test.false, c.loop-k.auto.k-end) in
    let base_is : c.loop-k.base ≡ c.args.limit * c.args.table.now.stops = c.loop-k.invariant.base_is ∙ ap (λ n. n * c.args.table.now.stops) k_is in
    subst (λ n. IsBestOf q c.loop-k.slots n k b) base_is (c.loop-k.invariant.bests q asks k b (omega (arith, few, k_is)) at)
