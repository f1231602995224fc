-- The scratch memory between two searches.
--     IsIdle up down up_queue down_queue sweep_queue room  no vertex has a label or waits, and there is room for an entry of each
use Rattle.std.specs.Prelude.{◌≡◌, ℕ, ◌≤◌, List, Option, None, length, replicate}
use Rattle.walk_hierarchy.specs.declared.labels.Label.{Label}

pub record IsIdle (up down : List (Option Label)) (up_queue down_queue : List (Option ℕ)) (sweep_queue : List (Option (Unit {0}))) (room : ℕ) : Type 0 where
  pub up_none : up ≡ replicate (length up_queue) None
  pub down_none : down ≡ replicate (length up_queue) None
  pub none_waits : up_queue ≡ replicate (length up_queue) None
  pub none_waits_back : down_queue ≡ replicate (length up_queue) None
  pub none_waits_in_sweep : sweep_queue ≡ replicate (length up_queue) None
  pub from_zero : 1 ≤ length up_queue
  pub enough : length up_queue ≤ room
