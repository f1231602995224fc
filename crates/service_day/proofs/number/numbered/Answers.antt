use Rattle.std.proofs.Common.{rules, subst, ap, sym, ◌∙◌}
use Rattle.std.specs.Prelude.{map, All}
use Rattle.std.proofs.lemmas.Result.{IfOk-weaker}
use Rattle.std.proofs.lemmas.List.Sorted.{All-permutation, answers_always}
use Rattle.move_model.specs.declared.network.Call.{Call}
use Rattle.service_day.specs.Order.{IsNumbered}
use Rattle.service_day.specs.DayTrips.{IsTimed}
use Rattle.service_day.specs.declared.departure.Departure.{Departure}
use Rattle.service_day.specs.Shift.{shifted_call}
use Rattle.service_day.specs.Departure.{trip_of}
use Rattle.service_day.proofs.NumberLemmas.{is_before, before-order, is-numbered}
use Rattle.service_day.proofs.number.numbered.Goals as goal

pub copied-requires : goal.copied-requires
copied-requires c =
    let timed : Departure → Type 0 = λ (departure : Departure). All (λ (call : Call). IsTimed (shifted_call departure.shift call)) departure.calls.now in
    let all : All timed c.as_slice.result.now = rw c.as_slice.ensures.value (All-permutation timed c.args.departures.items c.sort_by.new.self.items c.in_ok-sort_by.ensures.permutation c.requires) in
    all

pub returns : goal.returns
returns c =
    let sorted = c.sort_by.new.self.items in
    let in_order = is-numbered c.args.departures.items sorted c.in_ok-sort_by.ensures.permutation (c.in_ok-sort_by.ensures.sorted is_before before-order (answers_always _ _ _ (λ f a r q k. search rules))) (c.in_ok-sort_by.ensures.stable is_before before-order (answers_always _ _ _ (λ f a r q k. search rules))) in
    IfOk-weaker c.copied.result _ _ (λ trips e. subst (IsNumbered (map trip_of c.args.departures.items)) (sym (e ∙ ap (map trip_of) c.as_slice.ensures.value)) in_order) c.copied.ensures
