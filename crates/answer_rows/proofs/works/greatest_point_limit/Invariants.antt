use Rattle.std.proofs.Common.{ℕ, ◌<◌, ◌≤◌, get_or}
use Rattle.move_model.specs.declared.query.Query.{Query}
use Rattle.answer_rows.specs.Room.{point_limit_of}
use Rattle.answer_rows.proofs.works.greatest_point_limit.Given as goal

abbrev pub invariant-loop-query : goal.invariant-loop-query
invariant-loop-query l = (k : ℕ) (d : Query) → k < l.query-index → point_limit_of (get_or l.queries k d) ≤ l.greatest
