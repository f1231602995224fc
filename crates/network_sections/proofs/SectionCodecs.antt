-- The forms of sections, the reading of them, and why values that keep the rules have a form.
use Rattle.std.proofs.Common.{◌≡◌, ℕ, ◌^◌, ◌<◌, ◌≤◌, List, [], length, All, arith}
use Rattle.std.specs.List.{flat_map, AllByRecursion}
use Rattle.std.proofs.lemmas.List.Elements.{recursion_from_All, All-from_recursion}
use Rattle.move_model.specs.declared.journey.Shortcut.{Shortcut}
use Rattle.walk_hierarchy.specs.declared.arcs.UpDown.{UpDown}
use Rattle.bucket_walks.specs.declared.bucket.Bucket.{Bucket}
use Rattle.network_bytes.specs.Bytes.{word, long_list}
use Rattle.network_bytes.specs.Front.{word_at, long_at, items_at, counted}
use Rattle.network_bytes.specs.Forms.{up_down_form, up_down_at, bucket_form, bucket_at, shortcut_form, shortcut_at}
use Rattle.network_bytes.specs.Fits.{UpDownFits, BucketFits, ShortcutFits}
use Rattle.network_bytes.proofs.Codec.{IsCodec, word_codec, long_codec, items_codec, counted_codec}
use Rattle.network_bytes.proofs.EntryCodecs.{up_down_codec, bucket_codec, shortcut_codec}
use Rattle.move_model.specs.Streets.{Streets}
use Rattle.walk_hierarchy.specs.Hierarchy.{Parts}
use Rattle.network_codec.specs.Rules.{AreRanksOf, AreUp, AreDown, AreEntries, AreShortcuts}

abbrev pub RanksFit : ℕ → List ℕ → Type 0
RanksFit n ranks = (length ranks ≡ n) × AllByRecursion (λ rank. rank < 2 ^ 32) ranks

pub ranks_codec : (n : ℕ) → IsCodec (flat_map word) (RanksFit n) (items_at word_at n)
ranks_codec n = items_codec word_codec n

pub ranks_fit : (n : ℕ) (ranks : List ℕ) → n < 2 ^ 32 → AreRanksOf n ranks → RanksFit n ranks
ranks_fit n ranks few are = (are.one_each, recursion_from_All (λ (rank : ℕ). rank < 2 ^ 32) ranks (λ k d lt. omega (arith, are.each_once.below k d lt, are.one_each)))

abbrev pub ArcsFit : List UpDown → Type 0
ArcsFit arcs = (length arcs < 2 ^ 64) × AllByRecursion UpDownFits arcs

pub arcs_codec : IsCodec (long_list up_down_form) ArcsFit (counted long_at up_down_at)
arcs_codec = counted_codec long_codec up_down_codec

pub arcs_fit : (ranks : List ℕ) (up : List UpDown) → length ranks ≤ 2000000 → AreUp (record { ranks = ranks; up = up; down = [] }) → ArcsFit up
arcs_fit ranks up few are = (
  are.counted,
  recursion_from_All UpDownFits up (λ k d lt.
      let arc = are.rise.each k d lt in
      (omega (arith, arc.from.to_nodes), (omega (arith, arc.to.to_nodes), (omega (arith, arc.short), are.middles k d lt)))),
)

abbrev pub BucketsFit : List Bucket → Type 0
BucketsFit entries = (length entries < 2 ^ 64) × AllByRecursion BucketFits entries

pub buckets_codec : IsCodec (long_list bucket_form) BucketsFit (counted long_at bucket_at)
buckets_codec = counted_codec long_codec bucket_codec

pub buckets_fit : (nodes stops : ℕ) (entries : List Bucket) → nodes ≤ 2000000 → stops ≤ 200000 → AreEntries nodes stops entries → BucketsFit entries
buckets_fit nodes stops entries few_nodes few_stops are = (
  are.counted,
  recursion_from_All BucketFits entries (λ k d lt.
      let entry = are.buckets.each k d lt in
      (omega (arith, entry.to_nodes), (omega (arith, entry.stop), omega (arith, entry.short)))),
)

abbrev pub ShortcutsFit : List Shortcut → Type 0
ShortcutsFit list = (length list < 2 ^ 64) × AllByRecursion ShortcutFits list

pub shortcuts_codec : IsCodec (long_list shortcut_form) ShortcutsFit (counted long_at shortcut_at)
shortcuts_codec = counted_codec long_codec shortcut_codec

pub shortcuts_fit : (stops : ℕ) (list : List Shortcut) → stops ≤ 200000 → AreShortcuts stops list → ShortcutsFit list
shortcuts_fit stops list few are = (
  are.counted,
  recursion_from_All ShortcutFits list (λ k d lt.
      let entry = are.transfers.each k d lt in
      (omega (arith, entry.from), (omega (arith, entry.to), omega (arith, entry.short)))),
)

pub arcs_down_fit : (g : Streets) (h : Parts) → length h.ranks ≤ 2000000 → AreDown g h → ArcsFit h.down
arcs_down_fit g h few are = (
  are.counted,
  recursion_from_All UpDownFits h.down (λ k d lt.
      let arc = are.fall.each k d lt in
      (omega (arith, arc.from.to_nodes), (omega (arith, arc.to.to_nodes), (omega (arith, arc.short), are.middles k d lt)))),
)

-- the middles of arcs that were read
pub middles_fit : (arcs : List UpDown) → ArcsFit arcs → All (λ arc. arc.middle.0 < 2 ^ 32) arcs
middles_fit arcs fits = λ k d lt. (All-from_recursion UpDownFits arcs fits.1 k d lt).1.1.1
