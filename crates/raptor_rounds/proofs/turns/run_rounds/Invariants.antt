use Rattle.std.proofs.Common.{◌≡◌, ℕ, ◌+◌, ◌*◌, ◌≤◌, length}
use Rattle.std.specs.Prelude.{slice_get, Some}
use Rattle.raptor_rounds.specs.declared.labels.Best.{Best}
use Rattle.raptor_rounds.specs.Ways.{Query}
use Rattle.raptor_rounds.specs.Labels.{Covers}
use Rattle.raptor_rounds.specs.Least.{Closed, Sizes, Stands, IsBestOf, Asks}
use Rattle.raptor_rounds.proofs.turns.run_rounds.Given as goal

abbrev pub invariant-loop-k : goal.invariant-loop-k
invariant-loop-k g l = record {
  sizes : Sizes l.table.stops l.ready l.found;
  starts : length l.starts ≡ length l.fn.starts;
  marks : length l.marks ≡ length l.fn.marks;
  base_is : l.base ≡ l.k * l.table.stops;
  closed : Closed l.table l.list l.ready l.found;
  covers : Covers l.last l.found;
  counted : l.opens ≤ l.fn.opens + l.k * length l.table.routes;
  stands : (q : Query) → Asks q l.table l.first l.last l.list l.depart → Stands q l.k l.base l.slots l.ready l.found;
  bests : (q : Query) → Asks q l.table l.first l.last l.list l.depart → (j : ℕ) (b : Best) → j ≤ l.k → slice_get l.bests j ≡ Some b → IsBestOf q l.slots l.base j b;
}
