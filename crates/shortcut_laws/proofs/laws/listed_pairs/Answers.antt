use Rattle.shortcut_laws.proofs.Needed.{list_is, stops_exist, walk_within}
use Rattle.shortcut_laws.proofs.laws.listed_pairs.Goals as goal

pub returns : goal.returns
returns c = record { list = list_is; stops = stops_exist; within_day = walk_within }
