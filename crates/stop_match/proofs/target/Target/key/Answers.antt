use Rattle.std.proofs.Common.{◌≡◌, arith}
use Rattle.std.proofs.lemmas.Int.{to_z-of_z}
use Rattle.stop_match.specs.Cell.{key_of, gap}
use Rattle.stop_match.proofs.target.Target.key.Goals as goal

pub returns : goal.returns
unfolding key_of
returns c =
    let t = c.args.self.now in
    let cell = c.args.cell.now in
    let lat : c.distance-lat.result ≡ gap t.lat cell.lat_low cell.lat_high = grind (arith, to_z-of_z) in
    let lon : c.distance-lon.result ≡ gap t.lon cell.lon_low cell.lon_high = grind (arith, to_z-of_z) in
    cc (c.square.ensures.value, c.square-2.ensures.value)
