use Rattle.std.proofs.Common.{◌<◌, List, length, sym, subst}
use Rattle.std.specs.Prelude.{All}
use Rattle.std.specs.List.{AllAdjacentBelow}
use Rattle.move_model.specs.declared.journey.Shortcut.{Shortcut}
use Rattle.move_model.specs.Shortcut.{IsShortcutList}
use Rattle.stop_rows.specs.Rows.{Rows}
use Rattle.start_seconds.specs.declared.start.Start.{Start}
use Rattle.start_seconds.specs.Starts.{IsLater}
use Rattle.shortcut_build.proofs.Starts.{starts_within}
use Rattle.shortcut_build.proofs.Listed.{list_built, pairs_within, next_rises, collected_as}
use Rattle.shortcut_build.proofs.build.shortcuts.Goals as goal

pub new-requires-2 : goal.new-requires-2
new-requires-2 c = record {
  rules = c.requires.rules;
  few = c.requires.few;
  rows_are = c.in_ok-rows.ensures;
  table_is = c.requires.table;
  routes_are = c.requires.routes;
}

pub collect-requires-clause-places : goal.collect-requires-clause-places
collect-requires-clause-places c =
    let within = starts_within c.args.network.now c.in_ok-rows.rows c.in_ok-starts.starts c.in_ok-rows.ensures.places c.in_ok-starts.ensures in
    subst (λ (r : Rows). All (λ start. start.place < length r.nodes) c.as_slice.result.now) (sym c.in_ok-search.ensures.parts.1)
    (subst (λ (ss : List Start). All (λ start. start.place < length c.in_ok-rows.rows.nodes) ss) (sym c.as_slice.ensures) within)

pub collect-requires-clause-later : goal.collect-requires-clause-later
collect-requires-clause-later c = subst (λ (ss : List Start). AllAdjacentBelow IsLater ss (length ss)) (sym c.as_slice.ensures) c.in_ok-starts.ensures.falling

pub list_of-requires : goal.list_of-requires
list_of-requires c =
    let told = collected_as _ c.args.network.now _ c.in_ok-rows.rows _ c.in_ok-starts.starts _ _ c.as_slice-2.result.now c.in_ok-search.ensures.parts.0 c.in_ok-search.ensures.parts.1 c.as_slice.ensures c.new-needed.ensures (sym c.as_slice-2.ensures.pairs) c.in_ok-collect.ensures in
    pairs_within c.args.network.now c.in_ok-rows.rows c.in_ok-starts.starts c.as_slice-2.result.now c.requires.rules c.in_ok-rows.ensures c.in_ok-starts.ensures told

pub returns : goal.returns
returns c =
    let told = collected_as _ c.args.network.now _ c.in_ok-rows.rows _ c.in_ok-starts.starts _ _ c.as_slice-2.result.now c.in_ok-search.ensures.parts.0 c.in_ok-search.ensures.parts.1 c.as_slice.ensures c.new-needed.ensures (sym c.as_slice-2.ensures.pairs) c.in_ok-collect.ensures in
    subst (λ (list : List Shortcut). IsShortcutList c.args.network.now list) (sym c.in_ok-list.ensures)
    (list_built c.args.network.now c.in_ok-rows.rows c.in_ok-starts.starts c.as_slice-2.result.now c.requires.rules c.in_ok-rows.ensures c.in_ok-starts.ensures told (next_rises c.as_slice-2.result.now c.as_slice-2.ensures.rising))
