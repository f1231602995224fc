use Rattle.std.proofs.Common.{rules, SFits, w32}
use Rattle.stop_places.proofs.NearLemmas.{passed}
use Rattle.stop_places.proofs.near.near_place.Goals as goal

pub returns : goal.returns
returns c =
    let lat : SFits w32 c.in-Some-lat.lat = search rules in
    let lon : SFits w32 c.in-Some-lon.lon = search rules in
    rw (c.in-Some.is, c.in-Some-lat.is, c.in-Some-lon.is) (passed c.in-Some.near.grid.now _ _ c.in-Some.near.scale c.nearest.result lat lon c.nearest.ensures)
