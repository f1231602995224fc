use Rattle.std.proofs.Common.{◌≡◌, ℕ, ◌≤◌, List, Option, None, length, slice_set, refl, sym, ap, subst, inl, inr, arith}
use Rattle.walk_hierarchy.specs.Search.{IsOnward, IsGoing, work_left}
use Rattle.walk_hierarchy.specs.Meeting.{IsBoth, bound_of}
use Rattle.walk_hierarchy.proofs.SearchLaws.{few_seconds, going_taken, less_taken, less_stopped, least_far}
use Rattle.walk_hierarchy.proofs.MeetLaws.{both_stopped, both_left}
use Rattle.walk_hierarchy.proofs.meeting.step.Goals as goal

pub returns-in_default : goal.returns-in_default
returns-in_default c = record {
  both = λ other from to waiting both.
      subst (λ (q : List (Option ℕ)). IsBoth c.args.rows.now other from to c.args.best c.args.labels.now q c.args.others.now waiting) (sym c.in_default.ensures.kept) both;
  work = omega (arith, ap (work_left c.args.labels.now) c.in_default.ensures.kept);
  less = inl (c.in_default.ensures.none.0 refl);
  many = refl;
}

pub returns-then-bound-seconds : goal.returns-then-bound-seconds
returns-then-bound-seconds c =
    let labels = c.args.labels.now in
    let queue = c.args.queue.now in
    let n : ℕ = length c.take_least.new.self in
    let many : length c.take_least.new.self ≡ length queue = c.in-Some.ensures.places in
    let less = less_taken labels queue c.in-Some.at c.in-Some.seconds c.in-Some.ensures.least.held in
    let cleared : work_left labels c.clear.new.self ≤ work_left labels c.take_least.new.self =
    subst (λ (q : List (Option ℕ)). work_left labels q ≤ work_left labels c.take_least.new.self) (sym c.clear.ensures)
    (less_stopped labels c.take_least.new.self (length c.take_least.new.self)) in
    let taken : work_left labels c.take_least.new.self ≡ work_left labels (slice_set queue c.in-Some.at None) = ap (work_left labels) c.in-Some.ensures.taken in
    record {
      both = λ other from to waiting both.
          subst (λ (q : List (Option ℕ)). IsBoth c.args.rows.now other from to c.args.best labels q c.args.others.now waiting) (sym c.clear.ensures)
          (both_stopped c.args.rows.now other from to c.args.best labels queue c.args.others.now waiting both (length c.take_least.new.self) many
          (λ v s waits. least_far (bound_of c.args.best) queue c.in-Some.at c.in-Some.seconds (omega (arith, c.bound.ensures, c.if-bound-seconds.true)) c.in-Some.ensures.least v s waits));
      work = omega (arith, less, cleared, taken);
      less = inr (omega (arith, less, cleared, taken));
      many = refl;
    }

pub better-best-requires-clause-few : goal.better-best-requires-clause-few
better-best-requires-clause-few c =
    let both = c.requires.both.1.1.1.1 in
    let x = both.here.sound.waits c.in-Some.at c.in-Some.seconds c.in-Some.ensures.least.held in
    omega (arith, x.1.1, few_seconds c.args.rows.now (length c.args.labels.now) c.requires.climbs (both.here.sound.sums c.in-Some.at x.0 x.1.0))

pub leave-requires-clause-going : goal.leave-requires-clause-going
leave-requires-clause-going c =
    let from : ℕ = c.requires.both.1.0 in
    let both = c.requires.both.1.1.1.1 in (
      c.requires.both.1.0,
      (
        bound_of c.args.best,
        rw c.in-Some.ensures.taken
            (going_taken c.args.rows.now c.requires.both.1.0 (bound_of c.args.best) c.in-Some.at c.in-Some.seconds c.args.labels.now c.args.queue.now both.here c.in-Some.ensures.least.held),
      ),
    )

pub returns : goal.returns
returns c =
    let labels = c.args.labels.now in
    let queue = c.args.queue.now in
    let less = less_taken labels queue c.in-Some.at c.in-Some.seconds c.in-Some.ensures.least.held in
    let taken : work_left labels c.take_least.new.self ≡ work_left labels (slice_set queue c.in-Some.at None) = ap (work_left labels) c.in-Some.ensures.taken in
    let onward : IsOnward labels (slice_set queue c.in-Some.at None) c.leave.new.labels c.leave.new.queue =
    subst (λ (q : List (Option ℕ)). IsOnward labels q c.leave.new.labels c.leave.new.queue) c.in-Some.ensures.taken c.leave.ensures.onward in
    record {
      both = λ other from to waiting both.
          both_left c.args.rows.now other from to c.args.best labels queue c.args.others.now waiting both
          c.in-Some.at c.in-Some.seconds c.better-best.result c.leave.new.labels c.leave.new.queue c.in-Some.ensures.least.held c.better-best.ensures onward
          (λ a bound going. c.leave.ensures.search a bound
          (subst (λ (q : List (Option ℕ)). IsGoing c.args.rows.now a bound c.in-Some.at c.in-Some.seconds 0 labels q) (sym c.in-Some.ensures.taken) going));
      work = omega (arith, less, taken, c.leave.ensures.less);
      less = inr (omega (arith, less, taken, c.leave.ensures.less));
      many = c.leave.ensures.many;
    }
