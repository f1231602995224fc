use Rattle.lane_rows.proofs.Lesser.{each_lesser}
use Rattle.lane_rows.proofs.min8.Goals as goal

pub returns : goal.returns
returns c = each_lesser c.args.a c.args.b
