use Rattle.std.proofs.Common.{ℕ, ◌<◌, ◌≤◌, get_or}
use Rattle.move_model.specs.declared.query.Query.{Query}
use Rattle.city_summary.specs.Room.{limit_of}
use Rattle.city_summary.proofs.works.greatest_limit.Given as goal

abbrev pub invariant-loop-query : goal.invariant-loop-query
invariant-loop-query l = (k : ℕ) (d : Query) → k < l.query-index → limit_of (get_or l.queries k d) ≤ l.greatest
