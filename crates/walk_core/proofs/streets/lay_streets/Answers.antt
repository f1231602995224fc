use Rattle.std.proofs.Common.{arith, ◌≡◌, ℕ, length, List, subst, sym}
use Rattle.move_model.specs.declared.network.Arc.{Arc}
use Rattle.walk_core.specs.Bridge.{view_of, StreetsDone}
use Rattle.walk_core.proofs.StreetLemmas.{StreetsDone-more, StreetsDone-none, Keeps-start, Ruled-start}
use Rattle.walk_core.proofs.streets.lay_streets.Goals as goal

pub loop-arc-preserved : goal.loop-arc-preserved
loop-arc-preserved c =
    StreetsDone-more c.args.arcs.now c.loop-arc.arc-index (record { from = record { 0 = 0 }; to = record { 0 = 0 }; seconds = 0 })
    (view_of c.loop-arc.out c.loop-arc.into c.args.rank.now) (view_of c.lay_street.new.out c.lay_street.new.into c.args.rank.now)
    c.loop-arc-test.true c.requires.unranked c.loop-arc.invariant c.in_ok-lay_street.ensures

pub returns-clause-keeps : goal.returns-clause-keeps
returns-clause-keeps c = λ graph e.
    let all : c.loop-arc.arc-index ≡ length c.args.arcs.now = omega arith in
    Keeps-start graph (view_of c.loop-arc.out c.loop-arc.into c.args.rank.now) c.requires.unranked
    (subst (λ (arcs : List Arc). StreetsDone arcs (length arcs) (view_of c.loop-arc.out c.loop-arc.into c.args.rank.now)) (sym e)
    (subst (λ (k : ℕ). StreetsDone c.args.arcs.now k (view_of c.loop-arc.out c.loop-arc.into c.args.rank.now)) all c.loop-arc.invariant))

pub loop-arc-init : goal.loop-arc-init
loop-arc-init c = StreetsDone-none c.args.arcs.now c.args.out.now c.args.into.now c.args.rank.now c.requires.out c.requires.into

pub returns-clause-ruled : goal.returns-clause-ruled
returns-clause-ruled c = λ graph e.
    let all : c.loop-arc.arc-index ≡ length c.args.arcs.now = omega arith in
    Ruled-start graph (view_of c.loop-arc.out c.loop-arc.into c.args.rank.now) c.requires.unranked
    (subst (λ (arcs : List Arc). StreetsDone arcs (length arcs) (view_of c.loop-arc.out c.loop-arc.into c.args.rank.now)) (sym e)
    (subst (λ (k : ℕ). StreetsDone c.args.arcs.now k (view_of c.loop-arc.out c.loop-arc.into c.args.rank.now)) all c.loop-arc.invariant))
