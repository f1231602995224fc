use Rattle.std.proofs.Common.{◌≡◌, sym, subst}
use Rattle.std.proofs.lemmas.Result.{err_from_is_err_and}
use Rattle.network_bytes.specs.declared.stop.ReadStop.TheVariants as stop
use Rattle.network_sections.proofs.FrontLemmas.{in_front, read_fits, broken as none_in_front, cut_off}
use Rattle.bucket_walks.specs.Buckets.{AreBuckets}
use Rattle.network_codec.specs.Rules.{AreEntries}
use Rattle.network_sections.proofs.SectionCodecs.{BucketsFit, buckets_codec, buckets_fit}
use Rattle.network_sections.proofs.lists.buckets.Goals as goal

pub returns-in_err-entries-clause-broken : goal.returns-in_err-entries-clause-broken
returns-in_err-entries-clause-broken c = λ is.
    let p = err_from_is_err_and c.from_residual.result c.from_residual.ensures.1 in
    let broken : c.in_err-entries.field-0.0 ≡ stop.Broken = cc (is, p.1, p.2) in
    cut_off (AreEntries c.args.nodes c.args.stops) buckets_codec (λ y are. buckets_fit c.args.nodes c.args.stops y c.requires.few_nodes c.requires.few_stops are) c.args.bytes.now c.in_err-entries.field-0.0 c.in_err-entries.ensures broken

pub returns-then-not-are_buckets-clause-broken : goal.returns-then-not-are_buckets-clause-broken
returns-then-not-are_buckets-clause-broken c = λ _.
    none_in_front (AreEntries c.args.nodes c.args.stops) buckets_codec (λ y are. buckets_fit c.args.nodes c.args.stops y c.requires.few_nodes c.requires.few_stops are) c.args.bytes.now c.in_ok-entries.entries c.in_ok-entries.rest.now c.in_ok-entries.ensures
    (λ are.
    let yes = c.are_buckets.ensures.1 (subst (AreBuckets c.args.nodes c.args.stops) (sym c.as_slice.ensures) are.buckets) in
    let no = c.if-not-are_buckets.true in
    absurd cc)

pub returns-clause-found : goal.returns-clause-found
returns-clause-found c =
    let fits : BucketsFit c.in_ok-entries.entries = read_fits buckets_codec c.args.bytes.now c.in_ok-entries.entries c.in_ok-entries.rest.now (λ i. (c.type_inv.bytes i).fits) c.in_ok-entries.ensures in
    in_front (AreEntries c.args.nodes c.args.stops) buckets_codec c.args.bytes.now c.in_ok-entries.entries c.in_ok-entries.rest.now (λ i. (c.type_inv.bytes i).fits) c.in_ok-entries.ensures
    (record { counted = fits.0; buckets = subst (AreBuckets c.args.nodes c.args.stops) c.as_slice.ensures (c.are_buckets.ensures.0 c.if-not-are_buckets.false) })
