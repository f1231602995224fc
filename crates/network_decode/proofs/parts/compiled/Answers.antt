use Rattle.std.proofs.Common.{◌∙◌, ℕ, ap}
use Rattle.bucket_walks.specs.Buckets.{Parts}
use Rattle.network_decode.specs.Sections.{value_of}
use Rattle.network_decode.proofs.PartLemmas.{hierarchy_of, fits}
use Rattle.network_decode.proofs.parts.compiled.Goals as goal

pub hierarchy-requires : goal.hierarchy-requires
hierarchy-requires c = hierarchy_of c.requires.0 (value_of c.args.sections) c.requires.1

pub returns-clause-fits : goal.returns-clause-fits
returns-clause-fits c =
    fits c.requires.0 (value_of c.args.sections) c.requires.1 c.in_ok-table.table c.in_ok-hierarchy.hierarchy c.in_ok-buckets.buckets c.in_ok-table.ensures c.in_ok-hierarchy.ensures
    (c.in_ok-buckets.ensures ∙ ap (λ (n : ℕ). let b : Parts = record { nodes = c.args.sections.network.nodes; stops = n; to = c.args.sections.to; from = c.args.sections.from } in b) c.len-stops.ensures)
