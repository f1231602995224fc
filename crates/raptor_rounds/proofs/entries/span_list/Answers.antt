use Rattle.std.proofs.Common.{◌≡◌, ◌<◌, ◌+◌, length, get_or, set, refl, ap, ◌∙◌, arith, rules}
use Rattle.std.proofs.lemmas.List.{length-set}
use Rattle.std.proofs.lemmas.Option.{slice_get-get_or}
use Rattle.std.specs.Prelude.{vec_len}
use Rattle.move_model.specs.declared.journey.Shortcut.{Shortcut}
use Rattle.raptor_rounds.specs.declared.entries.Spans.{Spans}
use Rattle.raptor_rounds.proofs.EntriesLemmas.{spans_first, spans_next}
use Rattle.raptor_rounds.proofs.entries.span_list.Goals as goal
use Rattle.raptor_rounds.proofs.entries.span_list.Goals.{then-get, else-get}

pub loop-i-preserved : goal.loop-i-preserved
loop-i-preserved c =
    let was = c.loop-i.invariant in
    let i = c.loop-i.i in
    let none : Shortcut = record { from = record { 0 = 0 }; to = record { 0 = 0 }; seconds = 0 } in
    let e : Shortcut = get_or c.args.list.now i none in
    let is = slice_get-get_or c.args.list.now i none c.loop-i-test.true in
    let low : e.from.0 < length c.args.spans.now.firsts = (c.requires.list i none c.loop-i-test.true).from_within in
    let in_firsts : e.from.0 < length c.loop-i.spans.firsts = omega (arith, low, was.firsts) in
    let len : length c.loop-i.spans.ends.items ≡ c.loop-i.spans.ends.len = search rules in
    let in_ends : e.from.0 < length c.loop-i.spans.ends.items = omega (arith, low, was.ends, len) in
    elim c.if-get.branch [
      | then-get w ↦
          let firsts_are : c.if-get.spans.firsts ≡ set c.loop-i.spans.firsts e.from.0 w.place_no.result = ap (λ (s : Spans). s.firsts) w.spans-is ∙ w.set.ensures in
          let ends_are : c.if-get.spans.ends ≡ c.loop-i.spans.ends = ap (λ (s : Spans). s.ends) w.spans-is in
          record {
            firsts = ap length firsts_are ∙ length-set c.loop-i.spans.firsts e.from.0 w.place_no.result ∙ was.firsts;
            ends = ap vec_len ends_are ∙ was.ends;
            spans = spans_first c.args.list.now i e.from.0 w.place_no.result e c.loop-i.spans _ was.spans is refl (omega (arith, c.get.ensures, w.if-get.true)) in_firsts in_ends
                w.place_no.ensures.low w.place_no.ensures.no_later firsts_are (ap (λ v. set v.items e.from.0 (i + 1)) ends_are);
          }
      | else-get w ↦
          let firsts_are : c.if-get.spans.firsts ≡ c.loop-i.spans.firsts = ap (λ (s : Spans). s.firsts) w.spans-is in
          let ends_are : c.if-get.spans.ends ≡ c.loop-i.spans.ends = ap (λ (s : Spans). s.ends) w.spans-is in
          record {
            firsts = ap length firsts_are ∙ was.firsts;
            ends = ap vec_len ends_are ∙ was.ends;
            spans = spans_next c.args.list.now i e.from.0 e c.loop-i.spans _ was.spans is refl (omega (arith, c.get.ensures, w.if-get.false, c.get.type_inv)) in_ends
                firsts_are (ap (λ v. set v.items e.from.0 (i + 1)) ends_are);
          }
    ]
