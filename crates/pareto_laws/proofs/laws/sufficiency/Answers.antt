use Rattle.pareto_laws.proofs.ShortcutsSuffice.{shortcuts_suffice, shortcuts_hold_distances}
use Rattle.pareto_laws.proofs.laws.sufficiency.Goals as goal

pub returns : goal.returns
returns c = record { suffices = shortcuts_suffice; distances = shortcuts_hold_distances }
