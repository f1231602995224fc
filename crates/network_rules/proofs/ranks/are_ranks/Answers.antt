use Rattle.std.proofs.Common.{◌≡◌, Bool, false, get_or, refl, sym, subst, arith}
use Rattle.network_rules.proofs.RankLemmas.{seen-more, all-seen}
use Rattle.network_rules.proofs.ranks.are_ranks.Goals as goal

pub loop-i-preserved : goal.loop-i-preserved
loop-i-preserved c =
    let fresh : get_or c.loop-i.seen.items (get_or c.args.ranks.now c.loop-i.i 0) false ≡ false = subst (λ (b : Bool). get_or c.loop-i.seen.items (get_or c.args.ranks.now c.loop-i.i 0) b ≡ b) c.if-index.false (sym c.index.ensures) in
    seen-more c.args.ranks.now c.loop-i.seen.items c.loop-i.i (get_or c.args.ranks.now c.loop-i.i 0) c.loop-i-test.true refl (omega arith) fresh c.loop-i.invariant

pub returns : goal.returns
returns c = (λ _. all-seen c.args.ranks.now c.loop-i.seen.items c.loop-i.i (omega arith) c.loop-i.invariant, λ _. refl)
