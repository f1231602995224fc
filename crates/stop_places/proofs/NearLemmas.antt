-- A place whose coordinates were passed to a call.
use Rattle.std.proofs.Common.{ℕ, ℤ, List, SFits, w32, of_z, to_z}
use Rattle.std.proofs.lemmas.Int.{to_z-of_z}
use Rattle.move_model.specs.declared.network.NodeNo.{NodeNo}
use Rattle.street_graph.specs.declared.point.Point.{Point}
use Rattle.stop_match.specs.Nearest.{IsNearest}

pub passed : (points : List Point) (lat lon : ℤ) (scale : ℕ) (v : NodeNo) → SFits w32 lat → SFits w32 lon
    → IsNearest points (to_z w32 (of_z w32 lat)) (to_z w32 (of_z w32 lon)) scale v → IsNearest points lat lon scale v
passed points lat lon scale v f g n = rw (to_z-of_z w32 lat f, to_z-of_z w32 lon g) at n
