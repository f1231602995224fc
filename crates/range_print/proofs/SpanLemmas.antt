-- The rows of a range, span by span.
use Rattle.std.proofs.Common.{◌≡◌, ◌≢◌, ◌∙◌, ◌+◌, ◌<◌, ◌++◌, ℕ, List, [], ◌∷◌, length, drop, get_or, refl, ap, subst, sym, append_assoc, None}
use Rattle.std.specs.declared.alloc.Global.{Global}
use Rattle.std.specs.declared.vec.Vec.{Vec}
use Rattle.std.proofs.lemmas.Grind.{flat_map-append}
use Rattle.std.proofs.lemmas.List.{drop_more}
use Rattle.csv.specs.declared.writer.Writer.{Writer}
use Rattle.move_model.specs.declared.network.Network.{Network}
use Rattle.move_model.specs.declared.journey.SpanFinding.{SpanFinding}
use Rattle.journey_print.specs.Records.{HasText, record_text, records_text}
use Rattle.range_print.specs.declared.answer.RangeAnswer.{RangeAnswer}
use Rattle.range_print.specs.Rows.{span_records, spans_from, rows_of}

-- the rows from one span on are its rows and those from the next on
pub spans_from-drop : (query journey : ℕ) (n : Network) (answer : RangeAnswer) (spans : List SpanFinding) (i : ℕ) (found : SpanFinding)
    → i < length spans → found ≡ get_or spans i found
    → spans_from query journey n answer (drop i spans)
    ≡ span_records query journey n answer found ++ spans_from query (journey + 1) n answer (drop (i + 1) spans)
spans_from-drop query journey n answer spans i found within is =
    ap (λ fs. spans_from query journey n answer fs) (drop_more spans i found within)
    ∙ ap (λ f. span_records query journey n answer f ++ spans_from query (journey + 1) n answer (drop (i + 1) spans)) (sym is)

-- where there is a span there is no row of kind none
pub rows_of-some : (query : ℕ) (n : Network) (answer : RangeAnswer) (spans : List SpanFinding) → spans ≢ []
    → spans_from query 1 n answer spans ≡ rows_of query n answer None spans
rows_of-some query n answer [] some = absurd (some refl)
rows_of-some query n answer (found ∷ spans) some = refl

-- records and then further ones
pub rows_and_rows : (old mid new : Writer (Vec ℕ Global)) (rows more : List (List (List ℕ))) (text : List ℕ) → HasText old text
    → ((sent : List ℕ) → HasText old sent → HasText mid (sent ++ records_text rows))
    → ((sent : List ℕ) → HasText mid sent → HasText new (sent ++ records_text more)) → HasText new (text ++ records_text (rows ++ more))
rows_and_rows old mid new rows more text h first second =
    subst (λ ws. HasText new ws)
    (append_assoc text (records_text rows) (records_text more) ∙ ap (λ ws. text ++ ws) (sym (flat_map-append record_text rows more)))
    (second (text ++ records_text rows) (first text h))
