-- Entries in half the room, and those of a vertex.
use Rattle.std.proofs.Common.{◌≡◌, ◌∙◌, ◌+◌, ◌-◌, ◌<◌, ◌↔◌, ℕ, List, length, take, drop, get_or, map, sym, ap, subst, arith}
use Rattle.std.specs.Prelude.{All, Contains}
use Rattle.std.proofs.lemmas.List.{get_or-map, length-map, take-map, drop-map}
use Rattle.move_model.specs.declared.network.NodeNo.{NodeNo}
use Rattle.bucket_walks.specs.declared.bucket.Bucket.{Bucket}
use Rattle.bucket_walks.specs.declared.slim.Slim.{Slim}
use Rattle.bucket_walks.specs.Slim.{slim_of}
use Rattle.bucket_walks.specs.Starts.{AreStarts, nodes_of, row_at}
use Rattle.bucket_walks.proofs.ListLemmas.{row_has, row_all}

abbrev pub no_entry : Bucket
no_entry = record { node = record { 0 = 0 }; stop = record { 0 = 0 }; seconds = 0 }

abbrev pub no_slim : Slim
no_slim = record { stop = record { 0 = 0 }; seconds = 0 }

-- the items between the starts of a vertex are its entries
pub row_holds : (starts : List ℕ) (list : List Bucket) (node : NodeNo) → AreStarts starts (nodes_of list) → node.0 + 1 < length starts
    → (entry : Bucket) → Contains (row_at starts list node.0) entry ↔ (Contains list entry × (entry.node ≡ node))
row_holds starts list node are low entry =
    let key : Bucket → ℕ = λ e. e.node.0 in (
      λ has. let at = row_has key starts list node.0 are low entry has in (at.0, ap (λ n. record { 0 = n }) at.1),
      λ at. row_all key starts list node.0 are low entry at.0 (ap (λ (node : NodeNo). node.0) at.1),
    )

pub row_slim : (starts : List ℕ) (list : List Bucket) (v : ℕ) → row_at starts (map slim_of list) v ≡ map slim_of (row_at starts list v)
row_slim starts list v =
    let a = get_or starts v 0 in
    let n = get_or starts (v + 1) 0 - a in
    ap (take n) (drop-map slim_of a list) ∙ take-map slim_of n (drop a list)

-- the stops of slim entries are those of the entries
pub slim_stops : (n : ℕ) (entries : List Bucket) → All (λ entry. entry.stop.0 < n) entries → All (λ slim. slim.stop.0 < n) (map slim_of entries)
slim_stops n entries all k d low =
    let within : k < length entries = omega (arith, low, length-map entries slim_of) in
    subst (λ (slim : Slim). slim.stop.0 < n) (sym (get_or-map slim_of entries k no_entry d within)) (all k no_entry within)

-- the slim entry that a loop reads
pub slim_read : (slims : List Slim) (entries : List Bucket) (i : ℕ) → slims ≡ map slim_of entries → i < length slims
    → (i < length entries) × (get_or slims i no_slim ≡ slim_of (get_or entries i no_entry))
slim_read slims entries i is lt =
    let low : i < length entries = omega (arith, lt, ap length is, length-map entries slim_of) in
    (low, ap (λ (all : List Slim). get_or all i no_slim) is ∙ get_or-map slim_of entries i no_entry no_slim low)
