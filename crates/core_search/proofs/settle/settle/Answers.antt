use Rattle.std.proofs.Common.{◌≡◌, Some, List, Option, slice_set, sym, ap, subst, arith}
use Rattle.core_search.specs.declared.label.Label.{Label}
use Rattle.core_search.specs.Settle.{IsLeaving, free}
use Rattle.core_search.proofs.SettleLemmas.{search_first, leaving_first, fewer_free, spread_done}
use Rattle.core_search.proofs.settle.settle.Goals as goal

pub vertices-init : goal.vertices-init
vertices-init c = search_first c.args.core.now c.args.labels.now c.args.waiting.now c.requires.none c.requires.many c.requires.many_wait c.requires.short

pub leave-requires : goal.leave-requires
leave-requires c = (
  c.args.waiting.now,
  subst (λ (labels : List (Option Label)). IsLeaving c.args.core.now c.args.waiting.now labels c.take.new.self c.in-Some.at.0 c.in-Some.label 0) (sym c.set.ensures)
      (leaving_first c.args.core.now c.args.waiting.now c.vertices.labels c.vertices.waiting c.take.new.self c.in-Some.at.0 c.in-Some.label c.vertices.invariant c.in-Some.ensures.taken),
)

pub vertices-smaller : goal.vertices-smaller
vertices-smaller c =
    let fewer = fewer_free c.args.core.now c.args.waiting.now c.vertices.labels c.vertices.waiting c.take.new.self c.in-Some.at.0 c.in-Some.label c.vertices.invariant c.in-Some.ensures.taken in
    let same : free c.set.new.self ≡ free (slice_set c.vertices.labels c.in-Some.at.0 (Some c.in-Some.label)) = ap free c.set.ensures in
    omega (arith, fewer, same)

pub vertices-preserved : goal.vertices-preserved
vertices-preserved c =
    c.leave.ensures c.args.waiting.now
    (subst (λ (labels : List (Option Label)). IsLeaving c.args.core.now c.args.waiting.now labels c.take.new.self c.in-Some.at.0 c.in-Some.label 0) (sym c.set.ensures)
    (leaving_first c.args.core.now c.args.waiting.now c.vertices.labels c.vertices.waiting c.take.new.self c.in-Some.at.0 c.in-Some.label c.vertices.invariant c.in-Some.ensures.taken))

pub returns-clause-spread : goal.returns-clause-spread
returns-clause-spread c = spread_done c.args.core.now c.args.waiting.now c.vertices.labels c.vertices.waiting c.vertices.invariant c.in_default.ensures.none
