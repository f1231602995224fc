use Rattle.std.proofs.Common.{◌≡◌, ◌+◌, ◌-◌, ◌^◌, reverse, sym, subst, arith}
use Rattle.std.specs.Prelude.{MatchOption}
use Rattle.range_search.proofs.OpenLemmas.{turned_stands, turned_later}
use Rattle.range_search.proofs.opening.turn_spans.Goals as goal

pub returns-clause-stands : goal.returns-clause-stands
returns-clause-stands c q table last foot_is right within stands later =
    let bound = c.foot_bound.result in
    turned_stands q table c.args.depart c.args.levels.now right bound
    (subst (λ o. MatchOption o (bound ≡ 2 ^ 64 - 1) (λ seconds. bound ≡ c.args.depart + seconds)) (sym foot_is) c.foot_bound.ensures) c.requires.early
    c.find_leads.new.leads c.find_leads.ensures.many c.find_leads.ensures.exact c.close_spans.new.pending c.open_spans.new.pending
    (omega (arith, c.close_spans.ensures.many, c.requires.pending)) (omega (arith, c.open_spans.ensures.many, c.close_spans.ensures.many, c.requires.pending))
    c.in_ok-close_spans.ensures.kept c.in_ok-open_spans.ensures.opens last (reverse c.args.closed.now.items) (reverse c.close_spans.new.closed.items) within later
    c.in_ok-close_spans.ensures.closed (c.in_ok-close_spans.ensures.stands q last stands later)

pub returns-clause-later : goal.returns-clause-later
returns-clause-later c later =
    turned_later c.args.depart c.find_leads.new.leads (reverse c.args.closed.now.items) (reverse c.close_spans.new.closed.items) later c.in_ok-close_spans.ensures.closed
