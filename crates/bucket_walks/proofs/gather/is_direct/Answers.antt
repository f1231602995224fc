use Rattle.std.proofs.Common.{◌<◌, ◌≤◌, length}
use Rattle.walk_laws.specs.Sums.{longest}
use Rattle.bucket_walks.specs.declared.bypasses.Bypass.{Bypass}
use Rattle.bucket_walks.proofs.ListLemmas.{all_part}
use Rattle.bucket_walks.proofs.gather.is_direct.Goals as goal

pub has_no_short-requires-clause-exist : goal.has_no_short-requires-clause-exist
has_no_short-requires-clause-exist c =
    all_part (λ (arc : Bypass). arc.over.0 < length c.args.marks.now) c.args.bypasses.now.arcs.items c.row.result.now (λ arc has. ((c.row.ensures arc).0 has).0) c.requires.over

pub has_no_short-requires-clause-short : goal.has_no_short-requires-clause-short
has_no_short-requires-clause-short c =
    all_part (λ (arc : Bypass). arc.seconds ≤ longest) c.args.bypasses.now.arcs.items c.row.result.now (λ arc has. ((c.row.ensures arc).0 has).0) c.requires.short

pub returns-then-there-le-LONGEST : goal.returns-then-there-le-LONGEST
returns-then-there-le-LONGEST c = (
  λ yes. record {
    short = c.if-there-le-LONGEST.true;
    direct = λ arc stands at short. c.has_no_short.ensures.0 yes arc ((c.row.ensures arc).1 (stands, at)) short;
  },
  λ direct. c.has_no_short.ensures.1 (λ arc has short. let at = (c.row.ensures arc).0 has in direct.direct arc at.0 at.1 short),
)
