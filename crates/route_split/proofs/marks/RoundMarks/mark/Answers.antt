use Rattle.std.proofs.Common.{◌∙◌, true, set, ap}
use Rattle.route_split.proofs.MarkLemmas.{one_marked}
use Rattle.route_split.proofs.marks.RoundMarks.mark.Goals as goal

pub returns : goal.returns
returns c = one_marked c.self.inside.stamps.items c.self.inside.round c.args.route ∙ ap (λ l. set l c.args.route true) c.self.view_is
