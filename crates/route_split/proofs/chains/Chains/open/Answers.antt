use Rattle.std.proofs.Common.{◌+◌, length, ap, ◌∙◌}
use Rattle.std.proofs.lemmas.List.{length-set}
use Rattle.route_split.proofs.ChainLemmas.{chains_open}
use Rattle.route_split.proofs.JumpLemmas.{chained_moved, jumped_moved, jumped_open}
use Rattle.route_split.proofs.chains.Chains.open.Goals as goal

pub renew-requires-clause-chained : goal.renew-requires-clause-chained
renew-requires-clause-chained c =
    let s = c.args.self.now in
    let e = c.in_ok-push.ensures in
    chained_moved c.args.trips.now _ _ _ _ _ _ e.lasts e.tops e.nexts
    (chains_open c.args.trips.now s.lasts.items s.tops.items s.nexts.items c.args.u c.args.chain c.requires.chained c.requires.below c.requires.chain)

pub renew-requires-clause-jumped : goal.renew-requires-clause-jumped
renew-requires-clause-jumped c =
    let s = c.args.self.now in
    let e = c.in_ok-push.ensures in
    jumped_moved c.args.trips.now (length s.tops.items) _ _ _ _ _ _ _ _ _ (ap length e.tops ∙ length-set s.tops.items c.args.chain (length s.lasts.items + 1)) e.lasts e.nexts e.jumps e.lows
    (jumped_open c.args.trips.now s.lasts.items s.tops.items s.nexts.items s.jumps.items s.lows.items c.args.u c.args.chain c.requires.chained c.requires.jumped c.requires.below c.requires.chain)
