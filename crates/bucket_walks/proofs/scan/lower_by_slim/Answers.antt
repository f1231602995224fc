use Rattle.std.proofs.Common.{◌∙◌, ◌+◌, ℕ, List, length, take, slice_index_or, ap, subst, arith}
use Rattle.std.proofs.lemmas.List.{take_all, length-map}
use Rattle.bucket_walks.specs.declared.bucket.Bucket.{Bucket}
use Rattle.bucket_walks.specs.declared.slim.Slim.{Slim}
use Rattle.bucket_walks.specs.Slim.{slim_of}
use Rattle.bucket_walks.specs.Scan.{Lowers, IsAt, IsBy}
use Rattle.bucket_walks.proofs.ListLemmas.{none_taken, read_is}
use Rattle.bucket_walks.proofs.SlimLemmas.{no_entry, no_slim, slim_read}
use Rattle.bucket_walks.proofs.LowerLemmas.{lowers_nothing}
use Rattle.bucket_walks.proofs.ScanLemmas.{lowers_by_more}
use Rattle.bucket_walks.proofs.scan.lower_by_slim.Goals as goal

pub loop-slim-init : goal.loop-slim-init
loop-slim-init c = record {
  many = λ i. length c.args.walks.now;
  lowers = λ entries is. lowers_nothing c.args.walks.now (IsBy (take 0 entries) c.args.seconds) (λ p m by. none_taken entries by.entry by.stands);
}

pub loop-slim-preserved : goal.loop-slim-preserved
loop-slim-preserved c =
    let i = c.loop-slim.slim-index in
    record {
      many = c.lower.ensures.many ∙ c.loop-slim.invariant.many;
      lowers = λ entries is.
          let read = slim_read c.args.slims.now entries i is c.loop-slim-test.true in
          let x = slice_index_or entries i no_entry in
          lowers_by_more entries c.args.seconds i x read.0 (read_is entries i no_entry read.0) c.args.walks.now c.loop-slim.walks c.lower.new.walks
          (c.loop-slim.invariant.lowers entries is)
          (subst (λ (slim : Slim). Lowers c.loop-slim.walks c.lower.new.walks (IsAt slim.stop.0 (c.args.seconds + slim.seconds))) read.1
          (subst (λ (s : ℕ). Lowers c.loop-slim.walks c.lower.new.walks (IsAt (slice_index_or c.args.slims.now i no_slim).stop.0 (c.args.seconds + s))) c.from.ensures c.lower.ensures));
    }

pub returns-clause-lowers : goal.returns-clause-lowers
returns-clause-lowers c entries is =
    subst (λ (all : List Bucket). Lowers c.args.walks.now c.loop-slim.walks (IsBy all c.args.seconds))
    (take_all c.loop-slim.slim-index entries (omega (arith, c.loop-slim-test.false, ap length is, length-map entries slim_of))) (c.loop-slim.invariant.lowers entries is)
