use Rattle.std.proofs.Common.{Result, Ok, Err}
use Rattle.std.specs.Prelude.{OnOk}
use Rattle.walk_core.proofs.RowLemmas.{Puts-viewed}
use Rattle.walk_core.proofs.rows.Rows.put.Goals as goal

both : {T E : Type 0} (r : Result T E) {P Q R : Type 0} → (P → Q → R) → OnOk r P → OnOk r Q → OnOk r R
both (Ok x) f p q = f p q
both (Err e) f p q = tt

pub returns : goal.returns
returns c =
    both c.put_in.result
    (Puts-viewed c.self.inside.rows.items c.args.self.now c.args.at c.index_mut.result.now c.put_in.new.row c.args.arc c.self.view_is c.requires c.index_mut.ensures.value)
    c.put_in.ensures.puts c.put_in.ensures.ends
