use Rattle.std.proofs.Common.{◌∙◌, length, ap, arith}
use Rattle.std.proofs.lemmas.List.{length-replicate}
use Rattle.piece_laws.specs.Tables.{never}
use Rattle.witness_prune.specs.Labels.{kept_of}
use Rattle.witness_prune.proofs.NoneLemmas.{none_fits}
use Rattle.witness_prune.proofs.scratch.Scratch.new.Goals as goal

pub returns : goal.returns
returns c = record {
  places = c.in_ok-places.ensures.places;
  within = c.in_ok-places.ensures.within;
  foot = ap length c.in_ok-foot.ensures ∙ length-replicate c.stops-stops.result never ∙ c.stops-stops.ensures;
  labels = none_fits c.args.routes.now c.args.rows.now (kept_of c.in_ok-labels.labels) c.in_ok-labels.ensures.none;
  due = c.in_ok-labels.ensures.due;
  cuts = ap length c.in_ok-cuts.ensures ∙ length-replicate c.places.result never ∙ c.places.ensures;
  own = ap length c.in_ok-own.ensures ∙ length-replicate c.stops-stops.result never ∙ c.stops-stops.ensures;
  room = omega (arith, c.in_ok-pairs.ensures.capacity, c.stops-stops.ensures);
}
