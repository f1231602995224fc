-- The entries that are kept, laid out for a search.
use Rattle.std.proofs.Common.{◌≡◌, ◌<◌, ◌≤◌, ℕ, List, Option, None, length, get_or, map, sym, ap, subst, arith}
use Rattle.std.specs.Prelude.{All}
use Rattle.std.proofs.lemmas.List.{length-map}
use Rattle.walk_laws.specs.Sums.{longest}
use Rattle.walk_hierarchy.specs.declared.settled.Settled.{Settled}
use Rattle.bucket_walks.specs.declared.bucket.Bucket.{Bucket}
use Rattle.bucket_walks.specs.declared.slim.Slim.{Slim}
use Rattle.bucket_walks.specs.Slim.{slim_of}
use Rattle.bucket_walks.specs.Starts.{AreStarts, AreRows, nodes_of}
use Rattle.bucket_walks.specs.Scan.{Lowers, HasSmall, IsOver}
use Rattle.bucket_walks.specs.Twins.{kept_of}
use Rattle.bucket_walks.proofs.ListLemmas.{row_rises, row_within}
use Rattle.bucket_walks.proofs.SlimLemmas.{slim_stops}
use Rattle.bucket_walks.proofs.TwinLemmas.{kept_part}
use Rattle.bucket_walks.proofs.CopyLemmas.{lowers_small}

pub rows_of : (list : List Bucket) (slims : List Slim) (starts : List ℕ) → slims ≡ map slim_of list → AreStarts starts (nodes_of list) → AreRows starts (length slims)
rows_of list slims starts are first = record {
  rises = λ v low. row_rises (λ (entry : Bucket). entry.node.0) starts list v first low;
  within = λ v low. omega (arith, row_within (λ (entry : Bucket). entry.node.0) starts list v first low, ap length are, length-map list slim_of);
}

pub kept_stops : (n : ℕ) (twins : List ℕ) (list : List Bucket) (slims : List Slim) → slims ≡ map slim_of (kept_of twins list) → All (λ entry. entry.stop.0 < n) list
    → All (λ slim. slim.stop.0 < n) slims
kept_stops n twins list slims are all =
    subst (All (λ (slim : Slim). slim.stop.0 < n)) (sym are) (slim_stops n (kept_of twins list) (kept_part twins list (λ (entry : Bucket). entry.stop.0 < n) all))

pub kept_small : (none row : List (Option ℕ)) (is_none : (p : ℕ) → get_or none p None ≡ None) (settled : List Settled) (twins : List ℕ) (list : List Bucket)
    → All (λ there. there.seconds ≤ 4000000000000000000) settled → All (λ entry. entry.seconds ≤ longest) list → Lowers none row (IsOver settled (kept_of twins list)) → HasSmall row
kept_small none row is_none settled twins list few short lowers =
    lowers_small none is_none row settled (kept_of twins list) few (kept_part twins list (λ (entry : Bucket). entry.seconds ≤ longest) short) lowers
