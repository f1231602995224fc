use Rattle.std.proofs.Common.{◌≡◌, true, false, rules, arith}
use Rattle.std.specs.Prelude.{◌==◌, slice_index, codes}
use Rattle.std.specs.Str.{bytes_eq}
use Rattle.std.proofs.lemmas.Bool.Decides.{nat_tests}
use Rattle.street_graph.proofs.CoLineLemmas.{line_empty, line_comment, line_size, line_place, line_other}
use Rattle.street_graph.proofs.co.co_line.Goals as goal

pub returns-in_default : goal.returns-in_default
returns-in_default c = line_empty _ c.in_default.ensures.field

pub returns-then-word-eq99 : goal.returns-then-word-eq99
returns-then-word-eq99 c =
    let first : (slice_index c.in-Some.word.now 0 == 99) ≡ true = grind (arith, nat_tests) in
    line_comment _ _ _ c.in-Some.ensures.field first

pub returns-then-eq : goal.returns-then-eq
returns-then-eq c =
    let first : (slice_index c.in-Some.word.now 0 == 99) ≡ false = grind (arith, nat_tests) in
    let p : bytes_eq c.in-Some.word.now (codes "p") ≡ true = search rules in
    line_size _ _ _ _ c.in-Some.ensures.field first p c.size_line.ensures

pub returns-then-eq-2 : goal.returns-then-eq-2
returns-then-eq-2 c =
    let first : (slice_index c.in-Some.word.now 0 == 99) ≡ false = grind (arith, nat_tests) in
    let p : bytes_eq c.in-Some.word.now (codes "p") ≡ false = search rules in
    let v : bytes_eq c.in-Some.word.now (codes "v") ≡ true = search rules in
    line_place _ _ _ _ c.in-Some.ensures.field first p v c.place_line.ensures

pub returns-else-eq-2 : goal.returns-else-eq-2
returns-else-eq-2 c =
    let first : (slice_index c.in-Some.word.now 0 == 99) ≡ false = grind (arith, nat_tests) in
    let p : bytes_eq c.in-Some.word.now (codes "p") ≡ false = search rules in
    let v : bytes_eq c.in-Some.word.now (codes "v") ≡ false = search rules in
    line_other _ _ _ c.in-Some.ensures.field first p v
