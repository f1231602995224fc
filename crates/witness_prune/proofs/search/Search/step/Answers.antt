use Rattle.std.proofs.Common.{◌<◌, ◌≤◌, ◌⊎◌, ◌∙◌, ℕ, List, length, sym, ap, subst, arith}
use Rattle.std.proofs.lemmas.Result.{on_ok_weaker}
use Rattle.std.specs.Prelude.{◌↔◌, All, Contains, OnOk}
use Rattle.move_model.specs.declared.network.Network.{Network}
use Rattle.move_model.specs.declared.network.StopNo.{StopNo}
use Rattle.route_split.specs.Route.{Route, IsRoute}
use Rattle.witness_prune.specs.Scratch.{FitsScratch, IsAt}
use Rattle.witness_prune.specs.Search.{Searching, AreParts, IsNeededFrom}
use Rattle.witness_prune.proofs.NeededTable.{all_rows}
use Rattle.witness_prune.proofs.SearchLemmas.{search_stepped, stops_exist, needed_from}
use Rattle.witness_prune.proofs.search.Search.step.Goals as goal

pub stops_at-stops-requires : goal.stops_at-stops-requires
stops_at-stops-requires c =
    let some : 0 < c.self.inside.below = omega (arith, c.requires, ap (λ (v : Searching). v.below) c.self.view_is) in
    (c.self.invariant.at some).exists

pub step-added-requires-clause-routes : goal.step-added-requires-clause-routes
step-added-requires-clause-routes c = c.as_slice-routes.ensures.value ∙ c.self.invariant.routes_are

pub step-added-requires-clause-whole : goal.step-added-requires-clause-whole
step-added-requires-clause-whole c =
    let v = c.self.inside in
    let is = c.self.invariant in
    subst (λ (rs : List Route). All (IsRoute (length v.rows.now.places)) rs) (sym c.as_slice-routes.ensures.value)
    (subst (λ (m : ℕ). All (IsRoute m) v.routes.items) (sym (all_rows v.network.now v.rows.now v.table.now is.parts).one_each) is.whole)

pub step-added-requires-clause-many : goal.step-added-requires-clause-many
step-added-requires-clause-many c =
    let v = c.self.inside in
    c.self.invariant.parts.table_is.stops_are ∙ sym (all_rows v.network.now v.rows.now v.table.now c.self.invariant.parts).one_each

pub step-added-requires-clause-fits : goal.step-added-requires-clause-fits
step-added-requires-clause-fits c =
    let v = c.self.inside in
    subst (λ (rs : List Route). FitsScratch rs v.rows.now v.scratch) (sym c.as_slice-routes.ensures.value) c.self.invariant.fits

pub step-added-requires-clause-place : goal.step-added-requires-clause-place
step-added-requires-clause-place c =
    let some : 0 < c.self.inside.below = omega (arith, c.requires, ap (λ (v : Searching). v.below) c.self.view_is) in
    (c.self.invariant.at some).exists

pub step-added-requires-clause-exist : goal.step-added-requires-clause-exist
step-added-requires-clause-exist c =
    let v = c.self.inside in
    stops_exist v.network.now v.rows.now v.table.now v.place c.stops_at-stops.result.now c.self.invariant.parts c.stops_at-stops.ensures.exact

pub invariant_of-self : goal.invariant_of-self
invariant_of-self c =
    let v = c.self.inside in
    let s = c.step-added.new.self in
    let low : c.args.second < v.below = omega (arith, c.requires, ap (λ (v : Searching). v.below) c.self.view_is) in
    search_stepped v.network.now v.rows.now v.table.now v.routes.items v.place v.below c.args.second v.scratch s c.self.invariant low
    (subst (λ (rs : List Route). FitsScratch rs v.rows.now s) c.as_slice-routes.ensures.value c.step-added.ensures.fits)
    (subst (λ (rs : List Route). (n : Network) (z : ℕ) → AreParts n v.rows.now v.table.now → c.args.second ≤ z → IsAt n v.rows.now rs v.place z v.scratch → IsAt n v.rows.now rs v.place c.args.second s)
    c.as_slice-routes.ensures.value c.step-added.ensures.at)

pub returns-clause-ok : goal.returns-clause-ok
returns-clause-ok c =
    let v = c.self.inside in
    let is = c.self.invariant in
    let second = c.args.second in
    let old = c.args.needed.now in
    let new = c.step-added.new.needed in
    let us = c.stops_at-stops.result.now in
    let low : second < v.below = omega (arith, c.requires, ap (λ (v : Searching). v.below) c.self.view_is) in
    let some : 0 < v.below = omega (arith, low) in
    let at = subst (λ (rs : List Route). IsAt v.network.now v.rows.now rs v.place v.below v.scratch) (sym c.as_slice-routes.ensures.value) (is.at some) in
    subst (λ (w : Searching). OnOk c.step-added.result ((x y : StopNo) → Contains new (x, y) ↔ (Contains old (x, y) ⊎ IsNeededFrom w.network w.rows w.place second x y))) c.self.view_is
    (on_ok_weaker c.step-added.result
    (needed_from v.network.now v.rows.now v.place second us old new (all_rows v.network.now v.rows.now v.table.now is.parts).one_each c.stops_at-stops.ensures.exact)
    (c.step-added.ensures.ok v.network.now v.below is.parts (omega (arith, low)) at (λ u has. ((c.stops_at-stops.ensures.exact u).0 has).1)))
