use Rattle.std.proofs.Common.{rules, subst, sym}
use Rattle.std.proofs.lemmas.List.Sorted.{answers_always}
use Rattle.city_maker.specs.Order.{IsNumbered}
use Rattle.city_maker.proofs.Numbers.{is_before, before-order, is-numbered}
use Rattle.city_maker.proofs.order.numbered.Goals as goal

pub returns : goal.returns
returns c =
    let sorted = c.sort_by.new.self.items in
    let in_order = is-numbered c.args.trips.items sorted c.in_ok-sort_by.ensures.permutation (c.in_ok-sort_by.ensures.sorted is_before before-order (answers_always _ _ _ (λ f a r q k. search rules))) (c.in_ok-sort_by.ensures.stable is_before before-order (answers_always _ _ _ (λ f a r q k. search rules))) in
    subst (IsNumbered c.args.trips.items) (sym c.from_vec.ensures) in_order
