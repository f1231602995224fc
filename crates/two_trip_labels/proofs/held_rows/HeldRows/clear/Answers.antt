use Rattle.std.proofs.Common.{◌≡◌, ◌<◌, ℕ, List, length, sym, ap, subst, ◌∙◌, inl, inr, arith}
use Rattle.std.proofs.lemmas.Bool.{cases_eq}
use Rattle.std.proofs.lemmas.Option.{slice_get_within}
use Rattle.std.specs.Prelude.{replicate}
use Rattle.piece_laws.specs.declared.labels.Held.{Held}
use Rattle.two_trip_rides.specs.Second.{no_held}
use Rattle.two_trip_labels.specs.Second.{held_row}
use Rattle.two_trip_labels.proofs.held_rows.HeldRows.clear.Goals as goal

pub loop-route-preserved : goal.loop-route-preserved
loop-route-preserved c =
    let was = c.loop-route.invariant in
    let new = c.clear_row.new.self in
    let here = c.clear_row.ensures in
    record {
      many = here.many ∙ was.many;
      cleared = λ r lt. elim (cases_eq r c.loop-route.route) [
        | inl e ↦
            subst (λ (k : ℕ). held_row new k ≡ replicate (length (held_row c.args.self.now k)) no_held) (sym e)
            (here.cleared ∙ ap (λ (xs : List Held). replicate (length xs) no_held) (was.others c.loop-route.route (omega arith)))
        | inr ne ↦ here.others r ne ∙ was.cleared r (omega (arith, lt, ne))
      ];
      others = λ r le. here.others r (λ e. omega (arith, le, e)) ∙ was.others r (omega (arith, le));
    }

pub returns : goal.returns
returns c = λ routes fit. record {
  many = c.loop-route.invariant.many ∙ fit.many;
  each = λ r route is.
      let low : r < c.loop-route.route = omega (arith, slice_get_within routes r route is, fit.many, c.count-route-end.ensures, c.loop-route-test.false) in
      c.loop-route.invariant.cleared r low ∙ ap (λ (k : ℕ). replicate k no_held) (fit.each r route is);
}
