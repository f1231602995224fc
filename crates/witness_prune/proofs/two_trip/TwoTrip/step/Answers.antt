use Rattle.std.proofs.Common.{◌<◌, ◌≤◌, ◌⊎◌, ◌∙◌, ℕ, List, [], ◌∷◌, length, sym, ap, subst, arith}
use Rattle.std.specs.Prelude.{◌↔◌, All, Contains, OnOk}
use Rattle.move_model.specs.declared.network.Network.{Network}
use Rattle.move_model.specs.declared.network.StopNo.{StopNo}
use Rattle.route_split.specs.Route.{Route, IsRoute}
use Rattle.piece_laws.specs.Pieces.{IsNeeded}
use Rattle.witness_prune.specs.Scratch.{FitsScratch, IsAt}
use Rattle.witness_prune.specs.Search.{AreParts}
use Rattle.witness_prune.specs.TwoTrip.{Stepping}
use Rattle.witness_prune.proofs.NeededTable.{all_rows}
use Rattle.witness_prune.proofs.SearchLemmas.{search_stepped, stop_exists, stop_stands}
use Rattle.witness_prune.proofs.two_trip.TwoTrip.step.Goals as goal

pub step-added-requires-clause-routes : goal.step-added-requires-clause-routes
step-added-requires-clause-routes c = c.as_slice-routes.ensures.value ∙ c.self.invariant.search.routes_are

pub step-added-requires-clause-whole : goal.step-added-requires-clause-whole
step-added-requires-clause-whole c =
    let v = c.self.inside in
    let is = c.self.invariant.search in
    subst (λ (rs : List Route). All (IsRoute (length v.rows.places)) rs) (sym c.as_slice-routes.ensures.value)
    (subst (λ (m : ℕ). All (IsRoute m) v.routes.items) (sym (all_rows v.network.now v.rows v.table.now is.parts).one_each) is.whole)

pub step-added-requires-clause-many : goal.step-added-requires-clause-many
step-added-requires-clause-many c =
    let v = c.self.inside in
    let is = c.self.invariant.search in
    is.parts.table_is.stops_are ∙ sym (all_rows v.network.now v.rows v.table.now is.parts).one_each

pub step-added-requires-clause-fits : goal.step-added-requires-clause-fits
step-added-requires-clause-fits c =
    let v = c.self.inside in
    subst (λ (rs : List Route). FitsScratch rs v.rows v.scratch) (sym c.as_slice-routes.ensures.value) c.self.invariant.search.fits

pub step-added-requires-clause-place : goal.step-added-requires-clause-place
step-added-requires-clause-place c =
    let some : 0 < c.self.inside.below = omega (arith, c.requires, ap (λ (v : Stepping). v.below) c.self.view_is) in
    (c.self.invariant.search.at some).exists

pub step-added-requires-clause-exist : goal.step-added-requires-clause-exist
step-added-requires-clause-exist c =
    let v = c.self.inside in
    stop_exists v.network.now v.rows v.table.now v.stop c.self.invariant.search.parts c.self.invariant.exists

pub invariant_of-self : goal.invariant_of-self
invariant_of-self c =
    let v = c.self.inside in
    let is = c.self.invariant in
    let s = c.step-added.new.self in
    let low : c.args.second < v.below = omega (arith, c.requires, ap (λ (v : Stepping). v.below) c.self.view_is) in
    record {
      search = search_stepped v.network.now v.rows v.table.now v.routes.items v.place v.below c.args.second v.scratch s is.search low
          (subst (λ (rs : List Route). FitsScratch rs v.rows s) c.as_slice-routes.ensures.value c.step-added.ensures.fits)
          (subst (λ (rs : List Route). (n : Network) (z : ℕ) → AreParts n v.rows v.table.now → c.args.second ≤ z → IsAt n v.rows rs v.place z v.scratch → IsAt n v.rows rs v.place c.args.second s)
          c.as_slice-routes.ensures.value c.step-added.ensures.at);
      exists = is.exists;
      stands = is.stands;
    }

pub returns-clause-ok : goal.returns-clause-ok
returns-clause-ok c =
    let v = c.self.inside in
    let is = c.self.invariant in
    let second = c.args.second in
    let old = c.args.needed.now in
    let new = c.step-added.new.needed in
    let low : second < v.below = omega (arith, c.requires, ap (λ (v : Stepping). v.below) c.self.view_is) in
    let some : 0 < v.below = omega (arith, low) in
    let at = subst (λ (rs : List Route). IsAt v.network.now v.rows rs v.place v.below v.scratch) (sym c.as_slice-routes.ensures.value) (is.search.at some) in
    subst (λ (w : Stepping). OnOk c.step-added.result ((x y : StopNo) → Contains new (x, y) ↔ (Contains old (x, y) ⊎ IsNeeded w.network (w.stop ∷ []) second x y))) c.self.view_is
    (c.step-added.ensures.ok v.network.now v.below is.search.parts (omega (arith, low)) at (stop_stands v.rows v.place v.stop is.stands))
