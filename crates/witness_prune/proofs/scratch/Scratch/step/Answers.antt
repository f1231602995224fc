use Rattle.std.proofs.Common.{◌≡◌, ◌+◌, ◌<◌, ◌⊎◌, ℕ, List, get_or, length, sym, ap, subst, refl, arith}
use Rattle.std.proofs.lemmas.List.Elements.{All-contains}
use Rattle.std.proofs.lemmas.Option.{slice_get-get_or}
use Rattle.std.proofs.lemmas.Result.{on_ok_weaker}
use Rattle.std.specs.Prelude.{◌↔◌, All, Contains}
use Rattle.move_model.specs.declared.network.NodeNo.{NodeNo}
use Rattle.move_model.specs.declared.network.StopNo.{StopNo}
use Rattle.route_split.specs.Route.{Route, IsRoute}
use Rattle.route_split.specs.Calls.{HoldsTrips}
use Rattle.two_trip_passes.specs.Read.{HasRead, IsReadUntil}
use Rattle.witness_prune.specs.Needed.{Pair}
use Rattle.witness_prune.specs.Labels.{kept_of, IsDone}
use Rattle.witness_prune.specs.Scratch.{parts_at}
use Rattle.witness_prune.proofs.NeededTable.{all_rows, stands_at, none_added, step_adds}
use Rattle.witness_prune.proofs.StepLemmas.{boarded_at, boarded_same}
use Rattle.witness_prune.proofs.scratch.Scratch.step.Goals as goal

pub returns-then-until-eq0-clause-at : goal.returns-then-until-eq0-clause-at
returns-then-until-eq0-clause-at c n z parts le at =
    let g : ℕ = c.args.second + 1 in
    boarded_at n c.args.rows.now c.args.routes.now c.args.place c.args.second g _
    (boarded_same n c.args.rows.now c.args.routes.now c.args.place c.args.second g c.go_on.new.self _ refl refl (c.go_on.ensures.boarded n z parts le at))

pub returns-then-until-eq0-clause-ok : goal.returns-then-until-eq0-clause-ok
returns-then-until-eq0-clause-ok c n z parts le at stands =
    let rows = c.args.rows.now in
    let table = c.args.table.now in
    let routes = c.args.routes.now in
    let place = c.args.place in
    let second = c.args.second in
    let g : ℕ = c.args.second + 1 in
    let none : NodeNo = record { 0 = 0 } in
    let q = get_or rows.nodes place none in
    let here = slice_get-get_or rows.nodes place none c.requires.place in
    let whole = subst (λ (m : ℕ). All (IsRoute m) routes) (all_rows n rows table parts).one_each c.requires.whole in
    let s = c.go_on.new.self in
    let k = kept_of s.labels in
    let own = c.put_own.new.own.items in
    let b = c.go_on.ensures.boarded n z parts le at in
    let at_vertex = λ (u : StopNo). λ (is : Contains c.args.stops.now u).
    let low = All-contains (λ (s : StopNo). s.0 < table.stops) c.args.stops.now u c.requires.exist is in
    stands_at n rows table parts place q u here (omega (arith, low, parts.table_is.stops_are)) (stands u is) in
    let holds = subst (λ (rs : List Route). HoldsTrips n.trips rs) (sym c.requires.routes) parts.table_is.holds in
    let owns = c.put_own.ensures.stands n (sym parts.table_is.buffer_is) holds in
    none_added n rows table parts routes c.requires.routes whole q place here s.foot.items b.foot c.args.stops.now second own at_vertex owns g k c.args.needed.now (omega arith) (b.done q here)
    (λ v low. subst (λ (ns : List Pair). IsReadUntil rows s.foot.items second own k.boarded k.best ns v 0) c.as_slice.ensures.pairs
    (subst (λ (m : ℕ). IsReadUntil rows s.foot.items second own k.boarded k.best c.as_slice.result.now v m) c.if-until-eq0.true (c.sought_until-until.ensures v low)))

pub returns-clause-at : goal.returns-clause-at
returns-clause-at c n z parts le at =
    let rows = c.args.rows.now in
    let routes = c.args.routes.now in
    let place = c.args.place in
    let second = c.args.second in
    let g : ℕ = c.args.second + 1 in
    let first = boarded_at n rows routes place second g _ (boarded_same n rows routes place second g c.go_on.new.self _ refl refl (c.go_on.ensures.boarded n z parts le at)) in
    let b = c.go_on-2.ensures.boarded n second parts (omega arith) first in
    boarded_at n rows routes place second c.max-before.result c.add_pairs.new.self
    (boarded_same n rows routes place second c.max-before.result c.go_on-2.new.self c.add_pairs.new.self c.add_pairs.ensures.foot c.add_pairs.ensures.labels b)

pub returns-clause-ok : goal.returns-clause-ok
returns-clause-ok c n z parts le at stands =
    let rows = c.args.rows.now in
    let table = c.args.table.now in
    let routes = c.args.routes.now in
    let place = c.args.place in
    let second = c.args.second in
    let g : ℕ = c.args.second + 1 in
    let before : ℕ = c.max-before.result in
    let until : ℕ = c.sought_until-until.result in
    let none : NodeNo = record { 0 = 0 } in
    let q = get_or rows.nodes place none in
    let here = slice_get-get_or rows.nodes place none c.requires.place in
    let whole = subst (λ (m : ℕ). All (IsRoute m) routes) (all_rows n rows table parts).one_each c.requires.whole in
    let s = c.go_on.new.self in
    let s' = c.go_on-2.new.self in
    let k = kept_of s.labels in
    let k' = kept_of s'.labels in
    let foot = s.foot.items in
    let own = c.put_own.new.own.items in
    let b = c.go_on.ensures.boarded n z parts le at in
    let first = boarded_at n rows routes place second g _ (boarded_same n rows routes place second g s _ refl refl b) in
    let b' = c.go_on-2.ensures.boarded n second parts (omega arith) first in
    let same : s'.foot.items ≡ foot = ap (λ v. v.items) c.go_on-2.ensures.foot in
    let same_own : s'.own.items ≡ own = ap (λ v. v.items) c.go_on-2.ensures.own in
    let done' : IsDone n q second before (parts_at routes rows place foot) k' = subst (λ (xs : List ℕ). IsDone n q second before (parts_at routes rows place xs) k') same (b'.done q here) in
    let at_vertex = λ (u : StopNo). λ (is : Contains c.args.stops.now u).
    let low = All-contains (λ (s : StopNo). s.0 < table.stops) c.args.stops.now u c.requires.exist is in
    stands_at n rows table parts place q u here (omega (arith, low, parts.table_is.stops_are)) (stands u is) in
    let holds = subst (λ (rs : List Route). HoldsTrips n.trips rs) (sym c.requires.routes) parts.table_is.holds in
    let owns = c.put_own.ensures.stands n (sym parts.table_is.buffer_is) holds in
    let sought = λ (v : StopNo). λ (low : v.0 < length rows.places).
    subst (λ (ns : List Pair). IsReadUntil rows foot second own k.boarded k.best ns v until) c.as_slice.ensures.pairs (c.sought_until-until.ensures v low) in
    let added = λ (fs : List ℕ). λ (xs : List ℕ). (p : Pair) → Contains c.add_pairs.new.needed p ↔ (Contains c.args.needed.now p ⊎ HasRead rows fs second before xs k'.boarded k'.best (length rows.places) p.0 p.1) in
    on_ok_weaker _
    (λ (all : added s'.foot.items s'.own.items).
    step_adds n rows table parts routes c.requires.routes whole q place here foot b.foot c.args.stops.now second own at_vertex owns g until before k k' c.args.needed.now c.add_pairs.new.needed
    (omega arith) (b.done q here) sought (omega (arith, c.max-before.ensures)) (omega (arith, c.max-before.ensures)) done'
    (subst (λ (xs : List ℕ). added foot xs) same_own (subst (λ (fs : List ℕ). added fs s'.own.items) same all)))
    c.add_pairs.ensures.ok
