-- Lists of entries laid out for a search.
--     starts_in x                where the entries of each vertex begin
--     IsSlim list n slim         the twins of n stops, the entries of those that are their own, and where those of each vertex begin
--     IsIndex list n x           x is laid out so, or only says where the entries of each vertex begin
use Rattle.std.specs.Prelude.{◌≡◌, ℕ, List, map}
use Rattle.bucket_walks.specs.declared.bucket.Bucket.{Bucket}
use Rattle.bucket_walks.specs.declared.index.SlimIndex.{SlimIndex}
use Rattle.bucket_walks.specs.declared.index.Index.{Index}
use Rattle.bucket_walks.specs.declared.index.Index.TheVariants.{Slim, Wide}
use Rattle.bucket_walks.specs.Starts.{AreStarts, nodes_of}
use Rattle.bucket_walks.specs.Slim.{slim_of}
use Rattle.bucket_walks.specs.Twins.{AreTwins, kept_of}

abbrev pub starts_in : Index → List ℕ
starts_in (Slim slim) = slim.starts.items
starts_in (Wide starts) = starts.items

pub record IsSlim (list : List Bucket) (stops : ℕ) (slim : SlimIndex) : Type 0 where
  pub twins : AreTwins list stops slim.twins.items
  pub entries : slim.entries.items ≡ map slim_of (kept_of slim.twins.items list)
  pub first : AreStarts slim.starts.items (nodes_of (kept_of slim.twins.items list))

abbrev pub IsIndex : List Bucket → ℕ → Index → Type 0
IsIndex list stops (Slim slim) = IsSlim list stops slim
IsIndex list stops (Wide starts) = AreStarts starts.items (nodes_of list)
