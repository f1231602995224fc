use Rattle.std.proofs.Common.{◌≡◌, ◌∙◌, sym, refl, length, arith}
use Rattle.street_graph.proofs.TextLemmas.{fields_none, fields_next, some_next}
use Rattle.street_graph.proofs.text.next_field.Goals as goal

pub returns-then-begin-line-clause-field : goal.returns-then-begin-line-clause-field
returns-then-begin-line-clause-field c =
    let all : c.blanks_len-begin.result ≡ length c.args.line.now = omega arith in
    fields_none c.args.line.now (sym c.blanks_len-begin.ensures.place ∙ all)

pub returns-clause-field : goal.returns-clause-field
returns-clause-field c =
    fields_next c.args.line.now _ c.blanks_len-begin.result c.field_len-end.result c.blanks_len-begin.ensures.place (omega arith) refl
    c.field_len-end.ensures.place

pub returns-clause-some : goal.returns-clause-some
returns-clause-some c =
    some_next c.args.line.now _ c.blanks_len-begin.result c.field_len-end.result c.blanks_len-begin.ensures.place (omega arith) refl
    c.field_len-end.ensures.place
