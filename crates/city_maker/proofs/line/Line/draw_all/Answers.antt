use Rattle.std.proofs.Common.{◌≡◌, ◌++◌, ◌∷◌, [], List, All, subst, sym, ap, ◌∙◌, arith}
use Rattle.std.proofs.lemmas.List.Elements.{All-push}
use Rattle.city_maker.specs.declared.line.Line.{Line}
use Rattle.city_maker.specs.Lines.{line_at, city_lines, Fits}
use Rattle.city_maker.proofs.Ranges.{map_range_more}
use Rattle.city_maker.proofs.line.Line.draw_all.Goals as goal

pub loop-number-preserved : goal.loop-number-preserved
loop-number-preserved c =
    let side = c.args.side in
    let seed = c.args.draws.now.number in
    let n = c.loop-number.number in
    let same = c.loop-number.invariant.4 in
    let drawn : c.draw.result ≡ line_at side seed n = c.draw.ensures.line ∙ ap (λ s. line_at side s n) same in
    let items =
    c.push_reserved.ensures.items
    ∙ ap (λ (xs : List Line). xs ++ c.draw.result ∷ []) c.loop-number.invariant.0
    ∙ ap (λ (line : Line). city_lines side seed n ++ line ∷ []) drawn
    ∙ sym (map_range_more (line_at side seed) n)
    in (
      items,
      subst (All (Fits side)) (sym c.push_reserved.ensures.items) (All-push (Fits side) c.loop-number.lines.items c.draw.result c.loop-number.invariant.1 c.draw.ensures.fits),
      omega arith,
      omega arith,
      c.draw.ensures.number ∙ same,
      c.draw.ensures.made,
    )
