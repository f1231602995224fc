-- Ids that other tables name.
--     known_broken cause names id    the rules of an id that a table of these names has, in their order
use Rattle.std.specs.Prelude.{ℕ, List, Option}
use Rattle.refusals.specs.Refusal.{or_then}
use Rattle.move_model.specs.declared.refusal.Cause.{Cause}
use Rattle.tables.specs.Values.{id_broken}
use Rattle.gtfs_feed.specs.Ids.{unknown_broken}

unfoldable pub known_broken : Cause → List (List ℕ) → List ℕ → Option Cause
known_broken because names id = or_then (id_broken id) (unknown_broken because names id)
