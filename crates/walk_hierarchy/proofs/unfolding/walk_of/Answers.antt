use Rattle.std.proofs.Common.{◌≡◌, ℕ, List, [], Option, Some, None, true, false, refl, sym, subst}
use Rattle.walk_hierarchy.specs.declared.meeting.Meeting.{Meeting}
use Rattle.move_model.specs.declared.network.NodeNo.{NodeNo}
use Rattle.walk_hierarchy.specs.Hierarchy.{HasArc, IsUpDownSum, IsWayOver, IsShortestWalk}
use Rattle.walk_laws.specs.Sums.{IsLeast}
use Rattle.walk_hierarchy.specs.Meeting.{IsArcBack, IsBest, HasBest}
use Rattle.walk_hierarchy.specs.declared.labels.Label.{Label}
use Rattle.walk_hierarchy.specs.Places.{by_vertex}
use Rattle.walk_hierarchy.specs.Unfolding.{IsUnfolding}
use Rattle.walk_hierarchy.proofs.MeetLaws.{least_sum, least_there, least_back}
use Rattle.walk_hierarchy.proofs.UnfoldLaws.{way_over, shortest_walk}
use Rattle.walk_hierarchy.proofs.unfolding.walk_of.Goals as goal

true_not_false : true ≡ false → ⊥
true_not_false e = cc

pub returns-in_default-clause-none : goal.returns-in_default-clause-none
returns-in_default-clause-none c =
    let h = c.args.hierarchy.now in
    let up : List (Option Label) = by_vertex c.args.hierarchy.now.ranks c.args.names.now c.args.up.now in
    let down : List (Option Label) = by_vertex c.args.hierarchy.now.ranks c.args.names.now c.args.down.now in
    let best : HasBest (HasArc h.up) (IsArcBack h.down) c.args.a.0 c.args.b.0 up down None =
    subst (λ (r : Option Meeting). HasBest (HasArc h.up) (IsArcBack h.down) c.args.a.0 c.args.b.0 up down r) c.in_default.is c.requires.best in
    let none : (m : ℕ) → IsUpDownSum h c.args.a c.args.b m → ⊥ = least_sum h c.args.a c.args.b up down None best in
    (λ e. none, λ f. refl)

pub walk_by-requires-clause-there : goal.walk_by-requires-clause-there
walk_by-requires-clause-there c =
    let h = c.args.hierarchy.now in
    let best : IsBest (HasArc h.up) (IsArcBack h.down) c.args.a.0 c.args.b.0 (by_vertex h.ranks c.args.names.now c.args.up.now) (by_vertex h.ranks c.args.names.now c.args.down.now) c.in-Some.meeting =
    subst (λ (r : Option Meeting). HasBest (HasArc h.up) (IsArcBack h.down) c.args.a.0 c.args.b.0 (by_vertex h.ranks c.args.names.now c.args.up.now) (by_vertex h.ranks c.args.names.now c.args.down.now) r) c.in-Some.is c.requires.best in
    least_there (HasArc h.up) (IsArcBack h.down) c.args.a.0 c.args.b.0 (by_vertex h.ranks c.args.names.now c.args.up.now) (by_vertex h.ranks c.args.names.now c.args.down.now) c.in-Some.meeting best c.requires.up c.requires.down

pub walk_by-requires-clause-back : goal.walk_by-requires-clause-back
walk_by-requires-clause-back c =
    let h = c.args.hierarchy.now in
    let best : IsBest (HasArc h.up) (IsArcBack h.down) c.args.a.0 c.args.b.0 (by_vertex h.ranks c.args.names.now c.args.up.now) (by_vertex h.ranks c.args.names.now c.args.down.now) c.in-Some.meeting =
    subst (λ (r : Option Meeting). HasBest (HasArc h.up) (IsArcBack h.down) c.args.a.0 c.args.b.0 (by_vertex h.ranks c.args.names.now c.args.up.now) (by_vertex h.ranks c.args.names.now c.args.down.now) r) c.in-Some.is c.requires.best in
    least_back (HasArc h.up) (IsArcBack h.down) c.args.a.0 c.args.b.0 (by_vertex h.ranks c.args.names.now c.args.up.now) (by_vertex h.ranks c.args.names.now c.args.down.now) c.in-Some.meeting best c.requires.up c.requires.down

pub returns-clause-none : goal.returns-clause-none
returns-clause-none c =
    let h = c.args.hierarchy.now in
    let up : List (Option Label) = by_vertex c.args.hierarchy.now.ranks c.args.names.now c.args.up.now in
    let down : List (Option Label) = by_vertex c.args.hierarchy.now.ranks c.args.names.now c.args.down.now in
    let meeting = c.in-Some.meeting in
    let best : IsBest (HasArc h.up) (IsArcBack h.down) c.args.a.0 c.args.b.0 up down meeting =
    subst (λ (r : Option Meeting). HasBest (HasArc h.up) (IsArcBack h.down) c.args.a.0 c.args.b.0 up down r) c.in-Some.is c.requires.best in
    let least : IsLeast (IsUpDownSum h c.args.a c.args.b) meeting.seconds = least_sum h c.args.a c.args.b up down (Some meeting) best in
    (λ e. absurd (true_not_false e), λ f. absurd (f meeting.seconds least.attained))

pub returns-clause-seconds : goal.returns-clause-seconds
returns-clause-seconds c =
    let h = c.args.hierarchy.now in
    let up : List (Option Label) = by_vertex c.args.hierarchy.now.ranks c.args.names.now c.args.up.now in
    let down : List (Option Label) = by_vertex c.args.hierarchy.now.ranks c.args.names.now c.args.down.now in
    let meeting = c.in-Some.meeting in
    let best : IsBest (HasArc h.up) (IsArcBack h.down) c.args.a.0 c.args.b.0 up down meeting =
    subst (λ (r : Option Meeting). HasBest (HasArc h.up) (IsArcBack h.down) c.args.a.0 c.args.b.0 up down r) c.in-Some.is c.requires.best in
    least_sum h c.args.a c.args.b up down (Some meeting) best

pub returns-clause-walks : goal.returns-clause-walks
returns-clause-walks c = λ graph over.
    let h = c.args.hierarchy.now in
    let up : List (Option Label) = by_vertex c.args.hierarchy.now.ranks c.args.names.now c.args.up.now in
    let down : List (Option Label) = by_vertex c.args.hierarchy.now.ranks c.args.names.now c.args.down.now in
    let meeting = c.in-Some.meeting in
    let best : IsBest (HasArc h.up) (IsArcBack h.down) c.args.a.0 c.args.b.0 up down meeting =
    subst (λ (r : Option Meeting). HasBest (HasArc h.up) (IsArcBack h.down) c.args.a.0 c.args.b.0 up down r) c.in-Some.is c.requires.best in
    let least : IsLeast (IsUpDownSum h c.args.a c.args.b) meeting.seconds = least_sum h c.args.a c.args.b up down (Some meeting) best in
    subst (λ (walk : List NodeNo). IsWayOver graph h c.args.a c.args.b walk) (sym c.into_walk.ensures)
    (way_over graph h c.args.a c.args.b meeting.seconds c.in_ok-way.way least
    (subst (λ (n : ℕ). IsUnfolding graph c.args.a c.args.b n [] c.in_ok-way.way) best.meets.total
    (c.in_ok-way.ensures graph best.meets.x best.meets.y over best.meets.there best.meets.back)))

pub returns-clause-shortest : goal.returns-clause-shortest
returns-clause-shortest c = λ graph over gives.
    let h = c.args.hierarchy.now in
    let up : List (Option Label) = by_vertex c.args.hierarchy.now.ranks c.args.names.now c.args.up.now in
    let down : List (Option Label) = by_vertex c.args.hierarchy.now.ranks c.args.names.now c.args.down.now in
    let meeting = c.in-Some.meeting in
    let best : IsBest (HasArc h.up) (IsArcBack h.down) c.args.a.0 c.args.b.0 up down meeting =
    subst (λ (r : Option Meeting). HasBest (HasArc h.up) (IsArcBack h.down) c.args.a.0 c.args.b.0 up down r) c.in-Some.is c.requires.best in
    let least : IsLeast (IsUpDownSum h c.args.a c.args.b) meeting.seconds = least_sum h c.args.a c.args.b up down (Some meeting) best in
    subst (λ (walk : List NodeNo). IsShortestWalk graph c.args.a c.args.b walk) (sym c.into_walk.ensures)
    (shortest_walk graph h c.args.a c.args.b meeting.seconds c.in_ok-way.way c.requires.a c.requires.b gives least
    (subst (λ (n : ℕ). IsUnfolding graph c.args.a c.args.b n [] c.in_ok-way.way) best.meets.total
    (c.in_ok-way.ensures graph best.meets.x best.meets.y over best.meets.there best.meets.back)))
