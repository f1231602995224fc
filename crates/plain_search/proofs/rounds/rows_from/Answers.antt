use Rattle.std.proofs.Common.{◌≡◌, List, [], ◌∷◌, ◌++◌, length, sym, ◌∙◌, ap, subst, arith}
use Rattle.std.specs.Prelude.{All}
use Rattle.std.proofs.lemmas.List.{length_push}
use Rattle.std.proofs.lemmas.List.Elements.{All-push}
use Rattle.plain_search.specs.Row.{Ways, IsWhole}
use Rattle.plain_search.specs.Levels.{IsTable}
use Rattle.plain_search.proofs.LevelLaws.{table_first, table_more}
use Rattle.plain_search.proofs.rounds.rows_from.Goals as goal

-- the list of one row
one_row : (new old : List Ways) (row : Ways) → new ≡ old ++ row ∷ [] → old ≡ [] → new ≡ row ∷ []
one_row new old row new_is old_is = new_is ∙ ap (λ rows. rows ++ row ∷ []) old_is

pub loop-k-init : goal.loop-k-init
loop-k-init c =
    let none : List Ways = [] in
    let items : c.push.new.self.items ≡ c.in_ok-first_row.field-0 ∷ [] = one_row _ _ _ c.in_ok-push.ensures.items c.new-rows.ensures.items in
    record {
      many = ap (λ (xs : List Ways). length xs) items;
      whole = subst (λ (xs : List Ways). All IsWhole xs) (sym items) (All-push IsWhole none c.in_ok-first_row.field-0 (λ k d within. absurd (omega (arith, within))) c.in_ok-first_row.ensures.whole);
      table = λ ok numbered.
          subst (λ (xs : List Ways). IsTable c.args.network.now c.args.from c.args.depart xs) (sym items)
          (table_first c.args.network.now c.args.from c.args.depart c.in_ok-first_row.field-0 (c.in_ok-first_row.ensures.level ok));
    }

pub index-requires : goal.index-requires
index-requires c = omega (arith, c.loop-k.invariant.many)

pub next_row-requires : goal.next_row-requires
next_row-requires c = subst IsWhole (sym c.index.ensures) (c.loop-k.invariant.whole c.loop-k.k c.index.result.now (omega (arith, c.loop-k.invariant.many)))

pub loop-k-preserved : goal.loop-k-preserved
loop-k-preserved c =
    let items : c.push-in-loop-k.new.self.items ≡ c.loop-k.rows.items ++ c.in_ok-row.row ∷ [] = c.in_ok-push-2.ensures.items in
    record {
      many = omega (arith, ap (λ (xs : List Ways). length xs) items, length_push c.loop-k.rows.items c.in_ok-row.row, c.loop-k.invariant.many);
      whole = subst (λ (xs : List Ways). All IsWhole xs) (sym items) (All-push IsWhole c.loop-k.rows.items c.in_ok-row.row c.loop-k.invariant.whole c.in_ok-row.ensures.whole);
      table = λ ok numbered.
          subst (λ (xs : List Ways). IsTable c.args.network.now c.args.from c.args.depart xs) (sym items)
          (table_more c.args.network.now c.args.from c.args.depart c.loop-k.rows.items c.loop-k.k c.index.result.now c.in_ok-row.row c.loop-k.invariant.many c.index.ensures
          (c.in_ok-row.ensures.level ok numbered) (c.loop-k.invariant.table ok numbered));
    }
