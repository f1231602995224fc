use Rattle.std.proofs.Common.{◌≡◌, ◌≢◌, ◌+◌, ◌<◌, ◌≤◌, ℕ, slice_index_or, List, [], ◌∷◌, ◌++◌, length, take, refl, sym, subst, arith}
use Rattle.move_model.specs.declared.network.NodeNo.{NodeNo}
use Rattle.move_model.specs.Streets.{IsLeastArc}
use Rattle.walk_hierarchy.specs.Way.{IsWay}
use Rattle.walk_hierarchy.proofs.WayLaws.{goes_later, goes_at_once, goes_back}
use Rattle.walk_hierarchy.proofs.way.Way.go_on.Goals as goal

pub returns-then-seconds-gt0 : goal.returns-then-seconds-gt0
returns-then-seconds-gt0 c = λ graph a b total is apart arc way.
    let places = c.args.self.now.places.items in
    let node = c.args.node in
    let long : c.len-self.result ≡ length places = omega (arith, c.len-self.ensures) in
    subst (λ (vs : List NodeNo). IsWay graph a node (total + c.args.seconds) vs c.len-self.result) (sym c.in_ok-push.ensures.items)
    (subst (λ (k : ℕ). IsWay graph a node (total + c.args.seconds) (places ++ node ∷ []) k) (sym long)
    (goes_later graph node way is apart c.args.seconds arc (omega (arith, c.if-seconds-gt0.true))))

pub returns-in-Some : goal.returns-in-Some
returns-in-Some c = λ graph a b total is apart arc way.
    let places = c.args.self.now.places.items in
    let node = c.args.node in
    let none : 0 ≡ c.args.seconds = omega (arith, c.if-seconds-gt0.false) in
    let at = c.in-Some.at in
    let found : (c.args.self.now.since ≤ at) × (at < length places) × (slice_index_or places at node ≡ node) =
    subst (λ (vs : List NodeNo). (c.args.self.now.since ≤ at) × (at < length vs) × (slice_index_or vs at node ≡ node)) c.deref.ensures.value c.in-Some.ensures.some in
    subst (λ (vs : List NodeNo). IsWay graph a node (total + c.args.seconds) vs c.args.self.now.since) (sym c.truncate.ensures.items)
    (subst (λ (k : ℕ). IsWay graph a node (total + k) (take (at + 1) places) c.args.self.now.since) none
    (goes_back graph node way is apart at found.0 found.1 found.2))

pub returns-in_ok-push-in-None : goal.returns-in_ok-push-in-None
returns-in_ok-push-in-None c = λ graph a b total is apart arc way.
    let places = c.args.self.now.places.items in
    let node = c.args.node in
    let none : c.args.seconds ≡ 0 = omega (arith, c.if-seconds-gt0.false) in
    subst (λ (vs : List NodeNo). IsWay graph a node (total + c.args.seconds) vs c.args.self.now.since) (sym c.in_ok-push-in-None.ensures.items)
    (subst (λ (k : ℕ). IsWay graph a node (total + k) (places ++ node ∷ []) c.args.self.now.since) (sym none)
    (goes_at_once graph node way is apart (subst (λ (k : ℕ). IsLeastArc graph.arcs b node k) none arc)
    (subst (λ (vs : List NodeNo). (k : ℕ) → c.args.self.now.since ≤ k → k < length vs → slice_index_or vs k node ≢ node) c.deref.ensures.value (c.in-None.ensures.none refl))))
