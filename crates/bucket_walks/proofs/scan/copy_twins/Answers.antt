use Rattle.std.proofs.Common.{◌+◌, ℕ, List, Option, sym, subst, arith}
use Rattle.bucket_walks.proofs.CopyLemmas.{CopiedBelow, copied_none, copied_more}
use Rattle.bucket_walks.proofs.scan.copy_twins.Goals as goal

pub loop-stop-init : goal.loop-stop-init
loop-stop-init c = copied_none c.args.twins.now c.args.walks.now c.requires.small

pub loop-stop-preserved : goal.loop-stop-preserved
loop-stop-preserved c =
    let twins = c.args.twins.now in
    let old = c.args.walks.now in
    let n = c.loop-stop.stop in
    subst (λ (row : List (Option ℕ)). CopiedBelow twins old row (n + 1)) (sym c.copy.ensures)
    (copied_more twins old c.loop-stop.walks n (omega (arith, c.requires.one_each)) c.requires.no_later c.loop-stop.invariant)

pub returns : goal.returns
returns c =
    let is = c.loop-stop.invariant in
    record {
      many = is.many;
      own = λ q low own. is.own q (omega (arith, c.requires.one_each)) own;
      twin = λ q low. is.twin q (omega (arith, c.requires.one_each));
    }
