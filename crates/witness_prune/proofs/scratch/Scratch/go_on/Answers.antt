use Rattle.std.proofs.Common.{◌∙◌, subst, ℕ}
use Rattle.std.specs.Prelude.{All}
use Rattle.route_split.specs.Route.{IsRoute}
use Rattle.witness_prune.specs.Labels.{kept_of}
use Rattle.witness_prune.proofs.NeededTable.{all_rows, step_done}
use Rattle.witness_prune.proofs.scratch.Scratch.go_on.Goals as goal

pub returns-clause-fits : goal.returns-clause-fits
returns-clause-fits c = record {
  places = c.requires.fits.places;
  within = c.requires.fits.within;
  foot = c.requires.fits.foot;
  labels = c.advance.ensures.fits;
  due = c.advance.ensures.due;
  cuts = c.advance.ensures.cuts ∙ c.requires.fits.cuts;
  own = c.requires.fits.own;
  room = c.requires.fits.room;
}

pub returns-clause-boarded : goal.returns-clause-boarded
returns-clause-boarded c n z parts le at = record {
  exists = c.requires.place;
  foot = at.foot;
  done = λ q here.
      let rows = c.args.rows.now in
      let routes = c.args.routes.now in
      let whole = subst (λ (m : ℕ). All (IsRoute m) routes) (all_rows n rows c.args.table.now parts).one_each c.requires.whole in
      step_done n rows c.args.table.now parts routes c.requires.routes whole q c.args.place here c.args.self.now.foot.items at.foot
      c.as_slice-foot.result.now c.row-row.result.now c.args.second c.args.before z (kept_of c.args.self.now.labels) (kept_of c.advance.new.self) c.as_slice-foot.ensures.value
      c.row-row.ensures.entries c.advance.ensures.done le (at.kept q here);
}
