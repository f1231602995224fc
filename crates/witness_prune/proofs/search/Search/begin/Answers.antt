use Rattle.std.proofs.Common.{◌<◌, ◌∙◌, length, sym, ap, arith}
use Rattle.witness_prune.specs.Search.{Searching}
use Rattle.witness_prune.proofs.SearchLemmas.{search_begun}
use Rattle.witness_prune.proofs.search.Search.begin.Goals as goal

pub begin-requires-clause-place : goal.begin-requires-clause-place
begin-requires-clause-place c = omega (arith, c.requires, ap (λ (v : Searching). length v.rows.nodes) c.self.view_is)

pub begin-requires-clause-many : goal.begin-requires-clause-many
begin-requires-clause-many c = c.self.invariant.fits.foot ∙ sym (ap length c.self.invariant.fits.places)

pub begin-requires-clause-within : goal.begin-requires-clause-within
begin-requires-clause-within c = c.self.invariant.fits.within

pub invariant_of-self : goal.invariant_of-self
invariant_of-self c =
    let v = c.self.inside in
    let is = c.self.invariant in
    let within : c.args.place < length v.rows.now.nodes = omega (arith, c.requires, ap (λ (v : Searching). length v.rows.nodes) c.self.view_is) in
    search_begun v.network.now v.rows.now v.table.now v.routes.items v.place c.args.place v.below v.scratch c.begin.new.self is within
    (c.begin.ensures.fits v.routes.items is.fits) (c.begin.ensures.foot v.routes.items is.fits) (c.begin.ensures.none v.routes.items is.fits)
