use Rattle.std.proofs.Common.{◌≡◌, ◌<◌, List, Bool, length, set, true, nat_lt, subst, ap, ◌∙◌, arith, rules}
use Rattle.std.proofs.lemmas.List.{length-map, length-set}
use Rattle.raptor_rounds.proofs.SetLemmas.{arranged_now, shown_now, shown_same, read_is}
use Rattle.raptor_rounds.proofs.sparse_set.SparseSet.insert.Goals as goal

pub returns-then-place-count : goal.returns-then-place-count
returns-then-place-count c =
    let places = c.self.inside.places.items in
    let count = c.self.inside.count in
    let x = c.args.x in
    let x_in : x < length places = omega (arith, c.requires, ap length c.self.view_is, length-map places (λ place. nat_lt place count)) in
    let p_is = read_is places x c.index-place.result.now x_in c.index-place.ensures in
    subst (λ (l : List Bool). l ≡ set l x true) c.self.view_is (shown_same places x count x_in (omega (arith, p_is, c.if-place-count.true)))

pub index_mut-requires-2 : goal.index_mut-requires-2
index_mut-requires-2 c =
    let places = c.self.inside.places.items in
    let count = c.self.inside.count in
    let x_in : c.args.x < length places = omega (arith, c.requires, ap length c.self.view_is, length-map places (λ place. nat_lt place count)) in
    let p_is = read_is places c.args.x c.index-place.result.now x_in c.index-place.ensures in
    let len : length c.self.inside.items.items ≡ c.self.inside.items.len = search rules in
    omega (arith, p_is, c.self.invariant.0.place_low c.args.x x_in, c.self.invariant.0.one_each, len)

pub index_mut-requires-4 : goal.index_mut-requires-4
index_mut-requires-4 c =
    let items = c.self.inside.items.items in
    let places = c.self.inside.places.items in
    let count = c.self.inside.count in
    let x_in : c.args.x < length places = omega (arith, c.requires, ap length c.self.view_is, length-map places (λ place. nat_lt place count)) in
    let p_is = read_is places c.args.x c.index-place.result.now x_in c.index-place.ensures in
    let low : count < length places = omega (arith, p_is, c.self.invariant.0.place_low c.args.x x_in, c.if-place-count.false) in
    let o_is = read_is items count c.index-other.result.now (omega (arith, low, c.self.invariant.0.one_each)) c.index-other.ensures in
    let len : length places ≡ c.self.inside.places.len = search rules in
    omega (arith, o_is, c.self.invariant.0.item_low count low, len)

pub overflow_add-self : goal.overflow_add-self
overflow_add-self c =
    let places = c.self.inside.places.items in
    let count = c.self.inside.count in
    let x_in : c.args.x < length places = omega (arith, c.requires, ap length c.self.view_is, length-map places (λ place. nat_lt place count)) in
    let p_is = read_is places c.args.x c.index-place.result.now x_in c.index-place.ensures in
    omega (arith, p_is, c.self.invariant.0.place_low c.args.x x_in, c.if-place-count.false, c.self.invariant.2)

pub invariant_of-self : goal.invariant_of-self
invariant_of-self c =
    let items = c.self.inside.items.items in
    let places = c.self.inside.places.items in
    let count = c.self.inside.count in
    let x = c.args.x in
    let p = c.index-place.result.now in
    let o = c.index-other.result.now in
    let is = c.self.invariant.0 in
    let x_in : x < length places = omega (arith, c.requires, ap length c.self.view_is, length-map places (λ place. nat_lt place count)) in
    let p_is = read_is places x p x_in c.index-place.ensures in
    let low : count < length places = omega (arith, p_is, is.place_low x x_in, c.if-place-count.false) in
    let o_is = read_is items count o (omega (arith, low, is.one_each)) c.index-other.ensures in
    let long : length (set (set places x count) o p) ≡ length places = length-set (set places x count) o p ∙ length-set places x count in
    (arranged_now items places x count p o is x_in p_is o_is c.if-place-count.false, omega (arith, low, long), omega (arith, c.self.invariant.2, long))

pub returns : goal.returns
returns c =
    let items = c.self.inside.items.items in
    let places = c.self.inside.places.items in
    let count = c.self.inside.count in
    let x = c.args.x in
    let p = c.index-place.result.now in
    let o = c.index-other.result.now in
    let is = c.self.invariant.0 in
    let x_in : x < length places = omega (arith, c.requires, ap length c.self.view_is, length-map places (λ place. nat_lt place count)) in
    let p_is = read_is places x p x_in c.index-place.ensures in
    let low : count < length places = omega (arith, p_is, is.place_low x x_in, c.if-place-count.false) in
    let o_is = read_is items count o (omega (arith, low, is.one_each)) c.index-other.ensures in
    shown_now items places x count p o is x_in p_is o_is c.if-place-count.false ∙ ap (λ (l : List Bool). set l x true) c.self.view_is
