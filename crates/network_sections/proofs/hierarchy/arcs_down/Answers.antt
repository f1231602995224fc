use Rattle.std.proofs.Common.{◌≡◌, ℕ, List, [], sym, subst}
use Rattle.std.proofs.lemmas.Result.{err_from_is_err_and}
use Rattle.network_bytes.specs.declared.stop.ReadStop.TheVariants as stop
use Rattle.network_sections.proofs.FrontLemmas.{in_front, read_fits, broken as none_in_front, cut_off}
use Rattle.move_model.specs.declared.network.Network.{Network}
use Rattle.walk_hierarchy.specs.declared.arcs.UpDown.{UpDown}
use Rattle.network_rules.specs.Rules.{FallDown, AreMade}
use Rattle.network_codec.specs.Rules.{graph_of, AreDown}
use Rattle.network_sections.proofs.SectionCodecs.{ArcsFit, arcs_codec, arcs_down_fit, middles_fit}
use Rattle.network_sections.proofs.hierarchy.arcs_down.Goals as goal

abbrev Fall : List ℕ → List UpDown → Type 0
Fall ranks down = FallDown (record { ranks = ranks; up = []; down = down })

abbrev Made : Network → List ℕ → List UpDown → List UpDown → Type 0
Made n ranks up down = AreMade (graph_of n) (record { ranks = ranks; up = up; down = down })

pub returns-in_err-down-clause-broken : goal.returns-in_err-down-clause-broken
returns-in_err-down-clause-broken c = λ is.
    let p = err_from_is_err_and c.from_residual.result c.from_residual.ensures.1 in
    let broken : c.in_err-down.field-0.0 ≡ stop.Broken = cc (is, p.1, p.2) in
    cut_off (λ down. AreDown (graph_of c.args.network.now) (record { ranks = c.args.ranks.now; up = c.args.up.now; down = down })) arcs_codec (λ y are. arcs_down_fit (graph_of c.args.network.now) (record { ranks = c.args.ranks.now; up = c.args.up.now; down = y }) c.requires.few are) c.args.bytes.now c.in_err-down.field-0.0 c.in_err-down.ensures broken

pub returns-then-not-fall_down-clause-broken : goal.returns-then-not-fall_down-clause-broken
returns-then-not-fall_down-clause-broken c = λ _.
    none_in_front (λ down. AreDown (graph_of c.args.network.now) (record { ranks = c.args.ranks.now; up = c.args.up.now; down = down })) arcs_codec (λ y are. arcs_down_fit (graph_of c.args.network.now) (record { ranks = c.args.ranks.now; up = c.args.up.now; down = y }) c.requires.few are) c.args.bytes.now c.in_ok-down.down c.in_ok-down.rest.now c.in_ok-down.ensures
    (λ are.
    let yes = c.fall_down.ensures.1 (subst (Fall c.args.ranks.now) (sym c.as_slice.ensures) are.fall) in
    let no = c.if-not-fall_down.true in
    absurd cc)

pub returns-then-not-made-clause-broken : goal.returns-then-not-made-clause-broken
returns-then-not-made-clause-broken c = λ _.
    none_in_front (λ down. AreDown (graph_of c.args.network.now) (record { ranks = c.args.ranks.now; up = c.args.up.now; down = down })) arcs_codec (λ y are. arcs_down_fit (graph_of c.args.network.now) (record { ranks = c.args.ranks.now; up = c.args.up.now; down = y }) c.requires.few are) c.args.bytes.now c.in_ok-down.down c.in_ok-down.rest.now c.in_ok-down.ensures
    (λ are.
    let yes = c.in_ok-made.ensures.1 (subst (Made c.args.network.now c.args.ranks.now c.args.up.now) (sym c.as_slice-2.ensures) are.made) in
    let no = c.if-not-made.true in
    absurd cc)

pub returns-clause-found : goal.returns-clause-found
returns-clause-found c =
    let fits : ArcsFit c.in_ok-down.down = read_fits arcs_codec c.args.bytes.now c.in_ok-down.down c.in_ok-down.rest.now (λ i. (c.type_inv.bytes i).fits) c.in_ok-down.ensures in
    in_front (λ down. AreDown (graph_of c.args.network.now) (record { ranks = c.args.ranks.now; up = c.args.up.now; down = down })) arcs_codec c.args.bytes.now c.in_ok-down.down c.in_ok-down.rest.now (λ i. (c.type_inv.bytes i).fits) c.in_ok-down.ensures
    (record {
      counted = fits.0;
      fall = subst (Fall c.args.ranks.now) c.as_slice.ensures (c.fall_down.ensures.0 c.if-not-fall_down.false);
      middles = middles_fit c.in_ok-down.down fits;
      made = subst (Made c.args.network.now c.args.ranks.now c.args.up.now) c.as_slice-2.ensures (c.in_ok-made.ensures.0 c.if-not-made.false);
    })
