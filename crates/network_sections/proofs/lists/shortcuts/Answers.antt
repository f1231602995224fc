use Rattle.std.proofs.Common.{◌≡◌, sym, subst}
use Rattle.std.proofs.lemmas.Result.{err_from_is_err_and}
use Rattle.network_bytes.specs.declared.stop.ReadStop.TheVariants as stop
use Rattle.network_sections.proofs.FrontLemmas.{in_front, read_fits, broken as none_in_front, cut_off}
use Rattle.network_file.specs.Compiled.{AreTransfers}
use Rattle.network_codec.specs.Rules.{AreShortcuts}
use Rattle.network_sections.proofs.SectionCodecs.{ShortcutsFit, shortcuts_codec, shortcuts_fit}
use Rattle.network_sections.proofs.lists.shortcuts.Goals as goal

pub returns-in_err-list-clause-broken : goal.returns-in_err-list-clause-broken
returns-in_err-list-clause-broken c = λ is.
    let p = err_from_is_err_and c.from_residual.result c.from_residual.ensures.1 in
    let broken : c.in_err-list.field-0.0 ≡ stop.Broken = cc (is, p.1, p.2) in
    cut_off (AreShortcuts c.args.stops) shortcuts_codec (λ y are. shortcuts_fit c.args.stops y c.requires are) c.args.bytes.now c.in_err-list.field-0.0 c.in_err-list.ensures broken

pub returns-then-not-are_transfers-clause-broken : goal.returns-then-not-are_transfers-clause-broken
returns-then-not-are_transfers-clause-broken c = λ _.
    none_in_front (AreShortcuts c.args.stops) shortcuts_codec (λ y are. shortcuts_fit c.args.stops y c.requires are) c.args.bytes.now c.in_ok-list.list c.in_ok-list.rest.now c.in_ok-list.ensures
    (λ are.
    let yes = c.are_transfers.ensures.1 (subst (AreTransfers c.args.stops) (sym c.as_slice.ensures) are.transfers) in
    let no = c.if-not-are_transfers.true in
    absurd cc)

pub returns-clause-found : goal.returns-clause-found
returns-clause-found c =
    let fits : ShortcutsFit c.in_ok-list.list = read_fits shortcuts_codec c.args.bytes.now c.in_ok-list.list c.in_ok-list.rest.now (λ i. (c.type_inv.bytes i).fits) c.in_ok-list.ensures in
    in_front (AreShortcuts c.args.stops) shortcuts_codec c.args.bytes.now c.in_ok-list.list c.in_ok-list.rest.now (λ i. (c.type_inv.bytes i).fits) c.in_ok-list.ensures
    (record { counted = fits.0; transfers = subst (AreTransfers c.args.stops) c.as_slice.ensures (c.are_transfers.ensures.0 c.if-not-are_transfers.false) })
