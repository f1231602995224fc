use Rattle.std.proofs.Common.{◌≡◌, sym, subst, arith}
use Rattle.std.proofs.lemmas.Result.{err_from_is_err_and}
use Rattle.network_bytes.specs.declared.stop.ReadStop.TheVariants as stop
use Rattle.network_sections.proofs.FrontLemmas.{in_front, read_fits, broken as none_in_front, cut_off}
use Rattle.walk_hierarchy.specs.Hierarchy.{AreRanks}
use Rattle.network_codec.specs.Rules.{AreRanksOf}
use Rattle.network_sections.proofs.SectionCodecs.{RanksFit, ranks_codec, ranks_fit}
use Rattle.network_sections.proofs.hierarchy.ranks.Goals as goal

pub returns-in_err-ranks-clause-broken : goal.returns-in_err-ranks-clause-broken
returns-in_err-ranks-clause-broken c = λ is.
    let p = err_from_is_err_and c.from_residual.result c.from_residual.ensures.1 in
    let broken : c.in_err-ranks.field-0.0 ≡ stop.Broken = cc (is, p.1, p.2) in
    cut_off (AreRanksOf c.args.nodes) (ranks_codec c.args.nodes) (λ y are. ranks_fit c.args.nodes y (omega arith) are) c.args.bytes.now c.in_err-ranks.field-0.0 c.in_err-ranks.ensures broken

pub returns-then-not-right-clause-broken : goal.returns-then-not-right-clause-broken
returns-then-not-right-clause-broken c = λ _.
    none_in_front (AreRanksOf c.args.nodes) (ranks_codec c.args.nodes) (λ y are. ranks_fit c.args.nodes y (omega arith) are) c.args.bytes.now c.in_ok-ranks.ranks c.in_ok-ranks.rest.now c.in_ok-ranks.ensures
    (λ are.
    let yes = c.in_ok-right.ensures.1 (subst AreRanks (sym c.as_slice.ensures) are.each_once) in
    let no = c.if-not-right.true in
    absurd cc)

pub returns-clause-found : goal.returns-clause-found
returns-clause-found c =
    let fits : RanksFit c.args.nodes c.in_ok-ranks.ranks = read_fits (ranks_codec c.args.nodes) c.args.bytes.now c.in_ok-ranks.ranks c.in_ok-ranks.rest.now (λ i. (c.type_inv.bytes i).fits) c.in_ok-ranks.ensures in
    in_front (AreRanksOf c.args.nodes) (ranks_codec c.args.nodes) c.args.bytes.now c.in_ok-ranks.ranks c.in_ok-ranks.rest.now (λ i. (c.type_inv.bytes i).fits) c.in_ok-ranks.ensures
    (record { one_each = fits.0; each_once = subst AreRanks c.as_slice.ensures (c.in_ok-right.ensures.0 c.if-not-right.false) })
