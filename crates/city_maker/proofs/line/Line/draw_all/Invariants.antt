use Rattle.std.proofs.Common.{◌≡◌, ◌*◌, All, vec_len, vec_capacity}
use Rattle.city_maker.specs.Lines.{city_lines, Fits}
use Rattle.city_maker.proofs.line.Line.draw_all.Given as goal

abbrev pub invariant-loop-number : goal.invariant-loop-number
invariant-loop-number l =
    (l.lines.items ≡ city_lines l.side l.initial.draws.number l.number) × All (Fits l.side) l.lines.items × (vec_len l.lines ≡ l.number) × (vec_capacity l.lines ≡ l.many)
    × (l.draws.number ≡ l.initial.draws.number) × (l.draws.made ≡ 3 * l.number)
