use Rattle.std.proofs.Common.{◌≡◌, ◌-◌}
use Rattle.network_bytes.specs.Front.{items_at}
use Rattle.network_bytes.proofs.Loop.{with_front}
use Rattle.network_bytes.proofs.entry.entries.Given as goal

abbrev pub invariant-loop : goal.invariant-loop
invariant-loop g l = with_front l.items.items (items_at g.T.Entry.front (l.count - l.counter) l.rest) ≡ items_at g.T.Entry.front l.count l.bytes
