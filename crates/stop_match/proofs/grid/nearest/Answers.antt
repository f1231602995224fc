use Rattle.std.proofs.Common.{◌≡◌, to_z, of_z, w32}
use Rattle.std.proofs.lemmas.Int.{to_z-of_z}
use Rattle.stop_match.specs.declared.target.Target.{Target}
use Rattle.stop_match.proofs.NearestLemmas.{are-levels, nearest_from, real_from}
use Rattle.stop_match.proofs.grid.nearest.Goals as goal

pub first_guess-guess-requires-clause-levels : goal.first_guess-guess-requires-clause-levels
first_guess-guess-requires-clause-levels c = are-levels c.levels-levels.result.now c.args.grid.now c.levels-levels.ensures

pub search-best-requires-clause-levels : goal.search-best-requires-clause-levels
search-best-requires-clause-levels c = are-levels c.levels-levels.result.now c.args.grid.now c.levels-levels.ensures

pub returns : goal.returns
returns c =
    let levels = c.levels-levels.result.now in
    let best = c.search-best.result in
    let asked : Target = record { lat = to_z w32 (of_z w32 c.args.lat); lon = to_z w32 (of_z w32 c.args.lon); scale = c.args.scale } in
    let real = real_from levels asked c.first_guess-guess.result best c.first_guess-guess.ensures c.search-best.ensures.real in
    let found = nearest_from levels c.args.grid.now asked best c.levels-levels.ensures real c.search-best.ensures.done in
    let lat : to_z w32 (of_z w32 c.args.lat) ≡ c.args.lat = to_z-of_z w32 c.args.lat c.ranges.lat in
    let lon : to_z w32 (of_z w32 c.args.lon) ≡ c.args.lon = to_z-of_z w32 c.args.lon c.ranges.lon in
    rw (lat, lon) at found
