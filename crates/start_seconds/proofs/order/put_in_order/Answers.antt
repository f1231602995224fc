use Rattle.std.proofs.Common.{◌≡◌, ◌∙◌, length, sym, arith}
use Rattle.start_seconds.proofs.OrderLemmas.{same_starts, falling_starts}
use Rattle.start_seconds.proofs.order.put_in_order.Goals as goal

pub returns-clause-same : goal.returns-clause-same
returns-clause-same c =
    same_starts c.args.starts.now.items c.sort_unstable.new.self.items c.dedup.new.self.items c.reverse.new.self.items c.sort_unstable.ensures.permutation c.sort_unstable.ensures.sorted
    c.dedup.ensures.filtered c.reverse.ensures.permutation

pub returns-clause-falling : goal.returns-clause-falling
returns-clause-falling c =
    let many : length c.dedup.new.self.items ≡ c.dedup.new.self.len = sym c.dedup.new.self.ok.0 in
    falling_starts c.args.starts.now.items c.sort_unstable.new.self.items c.dedup.new.self.items c.reverse.new.self.items c.sort_unstable.ensures.permutation c.sort_unstable.ensures.sorted
    c.dedup.ensures.filtered (λ k d lt. rw many (c.reverse.ensures.by_index k d (omega (arith, lt, many)))) (sym c.reverse.new.self.ok.0 ∙ c.reverse.ensures.len ∙ c.dedup.new.self.ok.0)
