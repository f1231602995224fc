use Rattle.std.proofs.Common.{arith}
use Rattle.std.proofs.lemmas.Int.{ints, clamps}
use Rattle.stop_match.proofs.cell.Cell.joined.Goals as goal

pub returns-clause-first : goal.returns-clause-first
returns-clause-first c =
    record {
      lat_low = omega (arith, ints, clamps);
      lat_high = omega (arith, ints, clamps);
      lon_low = omega (arith, ints, clamps);
      lon_high = omega (arith, ints, clamps);
      least = omega arith;
    }

pub returns-clause-second : goal.returns-clause-second
returns-clause-second c =
    record {
      lat_low = omega (arith, ints, clamps);
      lat_high = omega (arith, ints, clamps);
      lon_low = omega (arith, ints, clamps);
      lon_high = omega (arith, ints, clamps);
      least = omega arith;
    }
