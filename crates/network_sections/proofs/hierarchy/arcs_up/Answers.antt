use Rattle.std.proofs.Common.{◌≡◌, ℕ, List, [], sym, subst}
use Rattle.std.proofs.lemmas.Result.{err_from_is_err_and}
use Rattle.network_bytes.specs.declared.stop.ReadStop.TheVariants as stop
use Rattle.network_sections.proofs.FrontLemmas.{in_front, read_fits, broken as none_in_front, cut_off}
use Rattle.walk_hierarchy.specs.declared.arcs.UpDown.{UpDown}
use Rattle.network_rules.specs.Rules.{RiseUp}
use Rattle.network_codec.specs.Rules.{AreUp}
use Rattle.network_sections.proofs.SectionCodecs.{ArcsFit, arcs_codec, arcs_fit, middles_fit}
use Rattle.network_sections.proofs.hierarchy.arcs_up.Goals as goal

abbrev Rise : List ℕ → List UpDown → Type 0
Rise ranks up = RiseUp (record { ranks = ranks; up = up; down = [] })

pub returns-in_err-up-clause-broken : goal.returns-in_err-up-clause-broken
returns-in_err-up-clause-broken c = λ is.
    let p = err_from_is_err_and c.from_residual.result c.from_residual.ensures.1 in
    let broken : c.in_err-up.field-0.0 ≡ stop.Broken = cc (is, p.1, p.2) in
    cut_off (λ up. AreUp (record { ranks = c.args.ranks.now; up = up; down = [] })) arcs_codec (λ y are. arcs_fit c.args.ranks.now y c.requires are) c.args.bytes.now c.in_err-up.field-0.0 c.in_err-up.ensures broken

pub returns-then-not-rise_up-clause-broken : goal.returns-then-not-rise_up-clause-broken
returns-then-not-rise_up-clause-broken c = λ _.
    none_in_front (λ up. AreUp (record { ranks = c.args.ranks.now; up = up; down = [] })) arcs_codec (λ y are. arcs_fit c.args.ranks.now y c.requires are) c.args.bytes.now c.in_ok-up.up c.in_ok-up.rest.now c.in_ok-up.ensures
    (λ are.
    let yes = c.rise_up.ensures.1 (subst (Rise c.args.ranks.now) (sym c.as_slice.ensures) are.rise) in
    let no = c.if-not-rise_up.true in
    absurd cc)

pub returns-clause-found : goal.returns-clause-found
returns-clause-found c =
    let fits : ArcsFit c.in_ok-up.up = read_fits arcs_codec c.args.bytes.now c.in_ok-up.up c.in_ok-up.rest.now (λ i. (c.type_inv.bytes i).fits) c.in_ok-up.ensures in
    in_front (λ up. AreUp (record { ranks = c.args.ranks.now; up = up; down = [] })) arcs_codec c.args.bytes.now c.in_ok-up.up c.in_ok-up.rest.now (λ i. (c.type_inv.bytes i).fits) c.in_ok-up.ensures
    (record {
      counted = fits.0;
      rise = subst (Rise c.args.ranks.now) c.as_slice.ensures (c.rise_up.ensures.0 c.if-not-rise_up.false);
      middles = middles_fit c.in_ok-up.up fits;
    })
