use Rattle.pareto_laws.proofs.Unique.{shortcuts_unique, pairs_unique}
use Rattle.pareto_laws.proofs.RangeUnique.{ranges_unique, listed_ranges_unique}
use Rattle.pareto_laws.proofs.laws.uniqueness.Goals as goal

pub returns : goal.returns
returns c = record { shortcuts = shortcuts_unique; pairs = pairs_unique; ranges = ranges_unique; listed_ranges = listed_ranges_unique }
