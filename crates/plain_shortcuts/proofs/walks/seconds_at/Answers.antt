use Rattle.std.proofs.Common.{None, sym}
use Rattle.plain_shortcuts.proofs.Lists.{past_end}
use Rattle.plain_shortcuts.proofs.walks.seconds_at.Goals as goal

pub returns-in-None : goal.returns-in-None
returns-in-None c = sym (past_end c.args.row.now c.args.node.0 None (sym c.in-None.ensures))
