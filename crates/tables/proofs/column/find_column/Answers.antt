use Rattle.std.proofs.Common.{sym, [], arith, ap, ◌∙◌}
use Rattle.std.specs.Str.{bytes_eq}
use Rattle.tables.specs.Table.{column_of, trimmed}
use Rattle.tables.proofs.Positions.{position-at, position-none}
use Rattle.tables.proofs.column.find_column.Goals as goal

pub returns-then-eq : goal.returns-then-eq
unfolding column_of
returns-then-eq c =
    sym (position-at (λ field. bytes_eq (trimmed field) c.args.name.now) _ c.loop-place.place [] (omega arith) c.loop-place.invariant (ap (λ text. bytes_eq text c.args.name.now) (sym c.cell_at.ensures) ∙ sym c.if-eq.ensures))

pub returns : goal.returns
unfolding column_of
returns c = sym (position-none (λ field. bytes_eq (trimmed field) c.args.name.now) _ [] (λ k h. c.loop-place.invariant k (omega arith)))
