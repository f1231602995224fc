use Rattle.std.proofs.Common.{◌≡◌, map, take}
use Rattle.shortcut_laws.specs.Pairs.{shortcut_of}
use Rattle.shortcut_build.specs.Collected.{seconds_by}
use Rattle.shortcut_build.proofs.listing.list_of.Given as goal

abbrev pub invariant-loop-pair : goal.invariant-loop-pair
invariant-loop-pair l = l.list ≡ map (shortcut_of (seconds_by l.rows)) (take l.pair-index l.pairs)
