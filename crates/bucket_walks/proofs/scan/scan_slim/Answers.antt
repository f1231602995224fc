use Rattle.std.proofs.Common.{◌≡◌, ◌∙◌, ◌<◌, List, length, map, take, slice_index_or, refl, sym, ap, subst, arith}
use Rattle.std.specs.Prelude.{All}
use Rattle.std.proofs.lemmas.List.{take_all}
use Rattle.walk_hierarchy.specs.declared.settled.Settled.{Settled}
use Rattle.bucket_walks.specs.declared.slim.Slim.{Slim}
use Rattle.bucket_walks.specs.Starts.{row_at}
use Rattle.bucket_walks.specs.Slim.{slim_of}
use Rattle.bucket_walks.specs.Scan.{Lowers, IsOver}
use Rattle.bucket_walks.proofs.ListLemmas.{none_taken, read_is, row_part}
use Rattle.bucket_walks.proofs.LowerLemmas.{lowers_nothing}
use Rattle.bucket_walks.proofs.SlimLemmas.{row_holds, row_slim}
use Rattle.bucket_walks.proofs.ScanLemmas.{lowers_over_more}
use Rattle.bucket_walks.proofs.scan.scan_slim.Goals as goal

abbrev nowhere : Settled
nowhere = record { node = record { 0 = 0 }; seconds = 0 }

pub loop-there-init : goal.loop-there-init
loop-there-init c = record {
  many = refl;
  lowers = λ list is first. lowers_nothing c.args.walks.now (IsOver (take 0 c.args.settled.now) list) (λ p m over. none_taken c.args.settled.now over.there over.comes);
}

pub row-requires-clause-rises : goal.row-requires-clause-rises
row-requires-clause-rises c = c.requires.rows.rises _ (c.requires.exist c.loop-there.there-index nowhere c.loop-there-test.true)

pub row-requires-clause-within : goal.row-requires-clause-within
row-requires-clause-within c = c.requires.rows.within _ (c.requires.exist c.loop-there.there-index nowhere c.loop-there-test.true)

pub lower_by_slim-requires-clause-stops : goal.lower_by_slim-requires-clause-stops
lower_by_slim-requires-clause-stops c =
    let P : Slim → Type 0 = λ slim. slim.stop.0 < length c.loop-there.walks in
    subst (All P) (sym c.row.ensures)
    (row_part P c.args.starts.now c.args.slims.now _
    (subst (λ n. All (λ (slim : Slim). slim.stop.0 < n) c.args.slims.now) (sym c.loop-there.invariant.many) c.requires.stops))

pub loop-there-preserved : goal.loop-there-preserved
loop-there-preserved c =
    let starts = c.args.starts.now in
    let settled = c.args.settled.now in
    let i = c.loop-there.there-index in
    let there = slice_index_or settled i nowhere in
    record {
      many = c.lower_by_slim.ensures.many ∙ c.loop-there.invariant.many;
      lowers = λ list is first.
          let row = row_at starts list there.node.0 in
          let row_is : c.row.result.now ≡ map slim_of row = c.row.ensures ∙ ap (λ (all : List Slim). row_at starts all there.node.0) is ∙ row_slim starts list there.node.0 in
          lowers_over_more settled list row i there c.loop-there-test.true (read_is settled i nowhere c.loop-there-test.true)
          (row_holds starts list there.node first (c.requires.exist i nowhere c.loop-there-test.true))
          c.args.walks.now c.loop-there.walks c.lower_by_slim.new.walks (c.loop-there.invariant.lowers list is first) (c.lower_by_slim.ensures.lowers row row_is);
    }

pub returns-clause-lowers : goal.returns-clause-lowers
returns-clause-lowers c list is first =
    subst (λ (settled : List Settled). Lowers c.args.walks.now c.loop-there.walks (IsOver settled list))
    (take_all c.loop-there.there-index c.args.settled.now (omega arith)) (c.loop-there.invariant.lowers list is first)
