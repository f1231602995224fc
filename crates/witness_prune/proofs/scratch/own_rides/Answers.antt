use Rattle.std.proofs.Common.{◌≡◌, ◌+◌, ◌^◌, ◌≤◌, ◌∙◌, ℕ, inl, length, refl, sym, ap, subst, arith}
use Rattle.std.proofs.lemmas.List.Elements.{All-contains}
use Rattle.std.specs.Prelude.{All, replicate}
use Rattle.route_split.specs.Route.{IsRoute}
use Rattle.piece_laws.specs.Tables.{never}
use Rattle.two_trip_passes.specs.Own.{OwnFrom}
use Rattle.witness_prune.proofs.OwnLemmas.{own_beyond, own_put}
use Rattle.witness_prune.proofs.scratch.own_rides.Goals as goal

pub returns-in-Some-clause-stands : goal.returns-in-Some-clause-stands
returns-in-Some-clause-stands c n same holds =
    let routes = c.args.routes.now in
    let new = c.own_all.new.own in
    let many = c.own_all.ensures.falls.as_many in
    let departs = c.in-Some.departs in
    let when : c.args.second + n.buffer ≡ departs = omega (arith, same, c.buffer.ensures, c.in-Some.ensures) in
    own_put n c.args.stops.now c.args.second departs routes new c.args.own.now when holds
    (subst (λ (m : ℕ). All (IsRoute m) routes) (sym many) c.requires.whole)
    (c.requires.none ∙ ap (λ (m : ℕ). replicate m never) (sym many))
    (λ u is. All-contains (OwnFrom routes departs new) c.args.stops.now u c.own_all.ensures.known is)
    c.own_all.ensures.changed

pub returns-in-None-clause-stands : goal.returns-in-None-clause-stands
returns-in-None-clause-stands c n same holds =
    let routes = c.args.routes.now in
    let own = c.args.own.now in
    let late : 2 ^ 32 ≤ c.args.second + n.buffer = omega (arith, same, c.buffer.ensures, c.in-None.ensures) in
    own_put n c.args.stops.now c.args.second (c.args.second + n.buffer) routes own own refl holds c.requires.whole c.requires.none
    (λ u is. own_beyond (length own) routes (c.args.second + n.buffer) own u c.requires.whole late)
    (λ x. inl refl)
