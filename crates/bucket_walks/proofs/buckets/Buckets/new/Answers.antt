use Rattle.std.proofs.Common.{◌≡◌, List, Result, Ok, Err, length, sym, subst}
use Rattle.std.specs.Prelude.{All, IfOk}
use Rattle.move_model.specs.declared.network.Stop.{Stop}
use Rattle.walk_hierarchy.specs.Hierarchy.{Parts, IsNode}
use Rattle.bucket_walks.specs.declared.bypasses.Side.TheVariants.{To, From}
use Rattle.bucket_walks.specs.Buckets.{Parts as BucketParts, AreBucketsOf}
use Rattle.bucket_walks.specs.Gathered.{AreEntries}
use Rattle.bucket_walks.proofs.buckets.Buckets.new.Goals as goal

made_of : {E : Type 0} (h : Parts) (stops : List Stop) (b : BucketParts) (r : Result BucketParts E) → All (λ stop. IsNode h stop.node) stops
    → b.nodes ≡ length h.ranks → b.stops ≡ length stops → AreEntries To h stops b.to → AreEntries From h stops b.from → IfOk r (λ made. made ≡ b) → IfOk r (AreBucketsOf h stops)
made_of h stops b (Err e) stand nodes one_each to from is = tt
made_of h stops b (Ok made) stand nodes one_each to from is =
    subst (AreBucketsOf h stops) (sym is) (record { nodes = nodes; one_each = one_each; stand = stand; to = to; from = from })

pub returns-clause-entries : goal.returns-clause-entries
returns-clause-entries c =
    let h = c.args.hierarchy.now in
    let stops = c.args.stops.now in
    made_of h stops (record { nodes = c.nodes.result; stops = c.len.result; to = c.in_ok-to.to; from = c.in_ok-to.from }) c.from_parts.result c.requires.stand
    c.nodes.ensures.value c.len.ensures
    (subst (λ (all : List Stop). AreEntries To h all c.in_ok-to.to) c.as_slice.ensures c.in_ok-to.ensures.to)
    (subst (λ (all : List Stop). AreEntries From h all c.in_ok-to.from) c.as_slice.ensures c.in_ok-to.ensures.from)
    c.from_parts.ensures
