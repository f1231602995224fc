use Rattle.std.proofs.Common.{None, replicate, sym, refl, ap, ◌∙◌}
use Rattle.walk_queue.proofs.KeysIn.{keys_in-none}
use Rattle.walk_queue.proofs.Stored.{keys_in-along}
use Rattle.walk_queue.proofs.queue.MinQueue.new.Goals as goal

pub returns : goal.returns
returns g c =
    keys_in-along _ _ _ _ c.in_ok-slots.ensures.items refl
    ∙ keys_in-none c.in_ok-index.index.items
    ∙ ap (λ n. replicate n None) (sym c.in_ok-index.index.ok.0 ∙ c.in_ok-index.ensures.len)
