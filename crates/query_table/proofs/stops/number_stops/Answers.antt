use Rattle.std.proofs.Common.{◌≡◌, ◌∙◌, ◌∷◌, ◌++◌, [], Some, None, Bor, List, ℕ, ap, sym, refl}
use Rattle.std.specs.Map.{lookup}
use Rattle.std.specs.Str.{bytes_eq}
use Rattle.indexmap.proofs.CallerLemmas.{insert_entry-new}
use Rattle.query_table.proofs.Numbers.{known_more, new_more}
use Rattle.query_table.proofs.stops.number_stops.Goals as goal

pub loop-number-preserved-in-Some : goal.loop-number-preserved-in-Some
loop-number-preserved-in-Some c =
    let there : lookup (λ (key : Bor (List ℕ)). bytes_eq c.index-stops-number.result.name key.now) c.loop-number.numbers.entries ≡ Some c.in-Some.field-0.now =
    rw (← c.as_slice-id.ensures) (sym c.in-Some.ensures.value) in
    known_more _ _ _ c.index-stops-number.result _ c.loop-number.invariant c.loop-number-test.true c.index-stops-number.is there

pub loop-number-preserved : goal.loop-number-preserved
loop-number-preserved c =
    new_more c.loop-number.numbers.entries _ _ _ c.index-stops-number.result c.as_slice-id.result c.loop-number.invariant c.loop-number-test.true c.index-stops-number.is c.as_slice-id.ensures
    (c.in-Ok.ensures.entries ∙ insert_entry-new (λ (a b : Bor (List ℕ)). bytes_eq a.now b.now) c.loop-number.numbers c.as_slice-id.result c.loop-number.number (sym c.in_default.ensures.value))
