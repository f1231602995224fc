-- Memory for so many rides is memory for fewer.
use Rattle.std.proofs.Common.{ℕ, ◌≤◌, arith}
use Rattle.network_file.specs.declared.compiled.Compiled.{Compiled}
use Rattle.city_summary.specs.declared.works.Works.{Works}
use Rattle.city_summary.specs.Room.{HasRoom}

pub room_less : (c : Compiled) (limit fewer : ℕ) (works : Works) → fewer ≤ limit → HasRoom c limit works → HasRoom c fewer works
room_less c limit fewer works less room =
    record {
      points = record { nodes = room.points.nodes; stops = room.points.stops; routes = room.points.routes; within = omega (arith, less, room.points.within) };
      ranges = record {
        first = room.ranges.first;
        last = room.ranges.last;
        search = room.ranges.search;
        profile = room.ranges.profile;
        within = omega (arith, less, room.ranges.within);
      };
    }
