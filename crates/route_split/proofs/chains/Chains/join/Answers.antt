use Rattle.route_split.proofs.ChainLemmas.{chains_join}
use Rattle.route_split.proofs.JumpLemmas.{jumped_join}
use Rattle.route_split.proofs.chains.Chains.join.Goals as goal

pub raise-requires-clause-chained : goal.raise-requires-clause-chained
raise-requires-clause-chained c =
    let s = c.args.self.now in
    chains_join c.args.trips.now s.lasts.items s.tops.items s.nexts.items c.args.g c.args.u c.requires.chained c.requires.g c.requires.u
    (c.requires.lasts c.args.g c.requires.g) c.requires.can

pub raise-requires-clause-jumped : goal.raise-requires-clause-jumped
raise-requires-clause-jumped c =
    let s = c.args.self.now in
    jumped_join c.args.trips.now s.lasts.items s.tops.items s.nexts.items s.jumps.items s.lows.items c.args.g c.args.u c.requires.chained c.requires.jumped c.requires.g c.requires.u
    (c.requires.lasts c.args.g c.requires.g) c.requires.can
